-- Laws of `found`: by where the bytes end, of bytes that follow, and of how many are wanted or make a run.
use Rattle.std.proofs.Common.{Option, Some, None}
use mathlib.Core.Path.{◌≡◌, refl, sym, ap, subst, ◌∙◌}
use Prim.Native.Nat.{ℕ, ◌+◌, ◌-◌, ◌≤◌, ◌<◌}
use mathlib.Core.List.{List, [], ◌∷◌, ◌++◌}
use native.Mathlib.Omega.{arith}
use borrow.Author.Tests.{lt-ltb, le-ltb, ltb-true, ltb-false, eq-eqb, ne_eqb, eqb-true, eqb-false}
use lib.ListN.{length, take, drop, length-append, take-append-drop}
use lib.Seq.{length-take-le}
use lib.Dec.{ltb, eqb}
use Rattle.wire.specs.Choice.{first_of}
use Rattle.wire.specs.Numbers.{field}
use Rattle.wire.specs.Request.{magic_number, magic, header_size}
use Rattle.wire.specs.Response.{response_header_size, response_least, response_of}
use Rattle.wire.specs.declared.response.ResponseHeader.{ResponseHeader}
use Rattle.wire.proofs.TestLaws.{none_at, some≢none}
use Rattle.wire.proofs.NumberLaws.{field_append}
use Rattle.messages.specs.Formats.{format_for}
use Rattle.reading.proofs.ReaderLaws.{decide}
use Rattle.client_responses.specs.Reading.{Asked, response_content_most, refused, header_tests, body_reply, found_behind, found}
use Rattle.client_responses.specs.State.{response_most}
use Rattle.client_responses.specs.code.Looked.{wanted_of, Run}
use Rattle.client_responses.specs.declared.ReadRefusal.{ReadRefusal}
use Rattle.client_responses.specs.declared.ReadRefusal.TheVariants.{WrongMagic, WrongHeaderSize, ContentTooLong}

-- ---- by where the bytes end

module _ (asked : Asked) (s : List ℕ) where
  pub found_short : length s < 6 → found asked s ≡ None
  unfolding found
  found_short l = rw (lt-ltb (length s) 6 l, found)

  module _ (six : 6 ≤ length s) where
    pub found_magic : (magic s ≡ magic_number → ⊥) → found asked s ≡ Some (refused WrongMagic)
    unfolding found
    found_magic n = rw (le-ltb (length s) 6 six, ne_eqb (magic s) magic_number n, found)

    module _ (m : magic s ≡ magic_number) where
      pub found_size : (header_size s ≡ response_header_size → ⊥) → found asked s ≡ Some (refused WrongHeaderSize)
      unfolding found
      found_size n = rw (le-ltb (length s) 6 six, eq-eqb (magic s) magic_number m, ne_eqb (header_size s) response_header_size n, found)

      module _ (h : header_size s ≡ response_header_size) where
        pub found_header : length s < response_least → found asked s ≡ None
        unfolding found
        found_header l =
            rw (le-ltb (length s) 6 six, eq-eqb (magic s) magic_number m, eq-eqb (header_size s) response_header_size h, lt-ltb (length s) response_least l, found)

        pub found_whole : response_least ≤ length s → found asked s ≡ found_behind asked (response_of s) s
        unfolding found
        found_whole l =
            rw (le-ltb (length s) 6 six, eq-eqb (magic s) magic_number m, eq-eqb (header_size s) response_header_size h, le-ltb (length s) response_least l, found)

-- behind a whole header
module _ (asked : Asked) (h : ResponseHeader) (s : List ℕ) where
  abbrev checked : Option ReadRefusal
  checked = first_of (header_tests asked h)

  pub behind_refused : (refusal : ReadRefusal) → checked ≡ Some refusal → found_behind asked h s ≡ Some (refused refusal)
  unfolding found_behind
  behind_refused refusal e = rw (e, found_behind)

  module _ (e : checked ≡ None) where
    pub behind_part : length s < response_least + h.content_length → found_behind asked h s ≡ None
    unfolding found_behind
    behind_part l = rw (e, lt-ltb (length s) (response_least + h.content_length) l, found_behind)

    pub behind_whole : response_least + h.content_length ≤ length s
        → found_behind asked h s ≡ Some (body_reply (format_for asked.accept_type) asked.opcode h.status (take h.content_length (drop response_least s)))
    unfolding found_behind
    behind_whole l = rw (e, le-ltb (length s) (response_least + h.content_length) l, found_behind)

    pub content_few : h.content_length ≤ response_content_most
    unfolding header_tests
    content_few = ltb-false _ _ (none_at (header_tests asked h) 3 ContentTooLong e)

-- ---- the beginning of a response

module _ (asked : Asked) (s : List ℕ) where
  abbrev content : ℕ
  content = (response_of s).content_length

  pub data Begun : Type 0 where
    short : length s < 6 → Begun
    in_header : 6 ≤ length s → magic s ≡ magic_number → header_size s ≡ response_header_size → length s < response_least → Begun
    in_body : response_least ≤ length s → magic s ≡ magic_number → header_size s ≡ response_header_size → checked asked (response_of s) s ≡ None → length s < response_least + content → Begun

  pub none_found : Begun → found asked s ≡ None
  none_found (short l) = found_short asked s l
  none_found (in_header six m h l) = found_header asked s six m h l
  none_found (in_body l m h c k) = found_whole asked s (omega arith) m h l ∙ behind_part asked (response_of s) s c k

  pub begun : found asked s ≡ None → Begun
  begun e =
      decide (ltb (length s) 6) (λ t. short (ltb-true _ _ t))
      (λ t. let six : 6 ≤ length s = ltb-false _ _ t in
      decide (eqb (magic s) magic_number)
      (λ t₁. let m : magic s ≡ magic_number = eqb-true _ _ t₁ in
      decide (eqb (header_size s) response_header_size)
      (λ t₂. let h : header_size s ≡ response_header_size = eqb-true _ _ t₂ in
      decide (ltb (length s) response_least) (λ t₃. in_header six m h (ltb-true _ _ t₃))
      (λ t₃. behind six m h (ltb-false _ _ t₃)))
      (λ t₂. absurd (some≢none (refused WrongHeaderSize) (sym (found_size asked s six m (eqb-false _ _ t₂)) ∙ e))))
      (λ t₁. absurd (some≢none (refused WrongMagic) (sym (found_magic asked s six (eqb-false _ _ t₁)) ∙ e))))
    where
      behind : 6 ≤ length s → magic s ≡ magic_number → header_size s ≡ response_header_size → response_least ≤ length s → Begun
      behind six m h l = go (checked asked (response_of s) s) refl
        where
          none_behind : found_behind asked (response_of s) s ≡ None
          none_behind = sym (found_whole asked s six m h l) ∙ e

          go : (o : Option ReadRefusal) → checked asked (response_of s) s ≡ o → Begun
          go (Some r) c = absurd (some≢none (refused r) (sym (behind_refused asked (response_of s) s r c) ∙ none_behind))
          go None c =
              decide (ltb (length s) (response_least + content)) (λ t. in_body l m h c (ltb-true _ _ t))
              (λ t. absurd (some≢none _ (sym (behind_whole asked (response_of s) s c (ltb-false _ _ t)) ∙ none_behind)))

-- ---- how many bytes are wanted

module _ (s : List ℕ) where
  pub wanted_short : length s < 6 → wanted_of s ≡ 6
  unfolding wanted_of
  wanted_short l = rw (lt-ltb (length s) 6 l, wanted_of)

  pub wanted_header : 6 ≤ length s → length s < response_least → wanted_of s ≡ response_least
  unfolding wanted_of
  wanted_header six l = rw (le-ltb (length s) 6 six, lt-ltb (length s) response_least l, wanted_of)

  pub wanted_body : response_least ≤ length s → wanted_of s ≡ response_least + (response_of s).content_length
  unfolding wanted_of
  wanted_body l = rw (le-ltb (length s) 6 (let x : 6 ≤ length s = omega arith in x), le-ltb (length s) response_least l, wanted_of)

pub record Wanted (s : List ℕ) : Type 0 where
  pub more : length s < wanted_of s
  pub few : wanted_of s ≤ response_most

pub wanted : (asked : Asked) (s : List ℕ) → found asked s ≡ None → Wanted s
wanted asked s e = go (begun asked s e)
  where
    go : Begun asked s → Wanted s
    go (short l) = let w = wanted_short s l in record { more = omega arith; few = omega arith }
    go (in_header six m h l) = let w = wanted_header s six l in record { more = omega arith; few = omega arith }
    go (in_body l m h c k) =
        let w = wanted_body s l in
        let f = content_few asked (response_of s) s c in
        record { more = omega arith; few = omega arith }

-- ---- bytes that follow

response_append : (s x : List ℕ) → response_least ≤ length s → response_of (s ++ x) ≡ response_of s
unfolding response_of
response_append s x l = λ i. record {
  major = field_append 6 1 s x (omega arith) i;
  minor = field_append 7 1 s x (omega arith) i;
  provider = field_append 8 1 s x (omega arith) i;
  session = field_append 9 8 s x (omega arith) i;
  content_type = field_append 17 1 s x (omega arith) i;
  content_length = field_append 18 4 s x (omega arith) i;
  opcode = field_append 22 2 s x (omega arith) i;
  status = field_append 24 2 s x (omega arith) i;
}

-- fewer than are wanted: nothing more can be said
pub nothing_more : (asked : Asked) (s x : List ℕ) → found asked s ≡ None → length s + length x < wanted_of s → found asked (s ++ x) ≡ None
nothing_more asked s x e less = none_found asked (s ++ x) (go (begun asked s e))
  where
    long : length (s ++ x) ≡ length s + length x
    long = length-append s x

    go : Begun asked s → Begun asked (s ++ x)
    go (short l) = short (omega (arith, wanted_short s l, long))
    go (in_header six m h l) =
        in_header (omega (arith, long)) (field_append 0 4 s x (omega arith) ∙ m) (field_append 4 2 s x (omega arith) ∙ h) (omega (arith, wanted_header s six l, long))
    go (in_body l m h c k) =
        let same = response_append s x l in
        let n = ap (λ (r : ResponseHeader). r.content_length) same in
        in_body (omega (arith, long)) (field_append 0 4 s x (omega arith) ∙ m) (field_append 4 2 s x (omega arith) ∙ h)
        (ap (λ (r : ResponseHeader). first_of (header_tests asked r)) same ∙ c)
        (omega (arith, wanted_body s l, long, n))

-- ---- a run of bytes

-- as many as are wanted
pub run_wanted : (asked : Asked) (s rest : List ℕ) → found asked s ≡ None → Run asked s rest (wanted_of s - length s)
run_wanted asked s rest e =
    let w = wanted asked s e in
    let more = w.more in
    let few = w.few in
    record {
      one = omega arith;
      few = omega arith;
      nothing_before = λ j h l. (let n = length-take-le j rest l in nothing_more asked s (take j rest) e (omega arith));
    }

no_bytes : (s : List ℕ) → length s ≡ 0 → s ≡ []
no_bytes [] e = refl
no_bytes (x ∷ s) e = absurd (omega arith)

-- behind none
pub run_first : (asked : Asked) (s rest : List ℕ) (k : ℕ) → length s ≡ 0 → Run asked [] rest k → Run asked s rest k
run_first asked s rest k e r = subst (λ (l : List ℕ). Run asked l rest k) (sym (no_bytes s e)) r

module _ (asked : Asked) (s : List ℕ) where
  pub run_six : Run asked [] s 6
  run_six = record {
    one = omega arith;
    few = omega arith;
    nothing_before = λ j h l. (let n = length-take-le j s l in found_short asked (take j s) (omega arith));
  }

  module _ (m : magic s ≡ magic_number) (h : header_size s ≡ response_header_size) where
    -- of six bytes or more, up to j
    module _ (j : ℕ) (there : j ≤ length s) (six : 6 ≤ j) where
      long : length (take j s) ≡ j
      long = length-take-le j s there

      front : (at width : ℕ) → at + width ≤ j → field at width (take j s) ≡ field at width s
      front at width g = sym (field_append at width (take j s) (drop j s) (omega (arith, long))) ∙ ap (field at width) (take-append-drop j s)

      in_header_lem : j < response_least → Begun asked (take j s)
      in_header_lem g = in_header (omega (arith, long)) (front 0 4 (omega arith) ∙ m) (front 4 2 (omega arith) ∙ h) (omega (arith, long))

      same_header : response_least ≤ j → response_of (take j s) ≡ response_of s
      same_header g = sym (response_append (take j s) (drop j s) (omega (arith, long))) ∙ ap response_of (take-append-drop j s)

      in_body_lem : first_of (header_tests asked (response_of s)) ≡ None → response_least ≤ j → j < response_least + (response_of s).content_length → Begun asked (take j s)
      in_body_lem c g k =
          let same = same_header g in
          let n = ap (λ (r : ResponseHeader). r.content_length) same in
          in_body (omega (arith, long)) (front 0 4 (omega arith) ∙ m) (front 4 2 (omega arith) ∙ h)
          (ap (λ (r : ResponseHeader). first_of (header_tests asked r)) same ∙ c)
          (omega (arith, long, n))

    before_header : (j : ℕ) → j < response_least → j ≤ length s → found asked (take j s) ≡ None
    before_header j g l =
        decide (ltb j 6) (λ t. run_six.nothing_before j (ltb-true _ _ t) l)
        (λ t. none_found asked (take j s) (in_header_lem j l (ltb-false _ _ t) g))

    pub run_header : Run asked [] s response_least
    run_header = record { one = omega arith; few = omega arith; nothing_before = before_header }

    pub run_whole : first_of (header_tests asked (response_of s)) ≡ None → Run asked [] s (response_least + (response_of s).content_length)
    run_whole c =
        let few = content_few asked (response_of s) s c in
        record {
          one = omega arith;
          few = omega arith;
          nothing_before = λ j g l.
              decide (ltb j response_least) (λ t. before_header j (ltb-true _ _ t) l)
              (λ t. (let b : response_least ≤ j = ltb-false _ _ t in none_found asked (take j s) (in_body_lem j l (omega arith) c b g)));
        }
