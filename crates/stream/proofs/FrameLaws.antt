-- What a request's beginning tells stays so when more bytes follow.
use mathlib.Core.Path.{◌≡◌, refl, sym, ap, ap₂, ◌∙◌, subst}
use Prim.Native.Nat.{ℕ, suc, ◌+◌, ◌-◌, ◌≤◌, ◌<◌}
use mathlib.Core.Bool.{Bool, true, false, true≢false}
use mathlib.Core.List.{List, [], ◌∷◌, ◌++◌}
use native.Mathlib.Omega.{arith}
use lib.ListN.{length, take, drop, length-append, take-append-drop}
use lib.Seq.{take-append-le, length-take-le}
use lib.Dec.{leb, ltb, eqb}
use borrow.Author.Tests.{ltb-true, ltb-false, lt-ltb, le-ltb, leb-true}
use Rattle.wire.specs.Request.{magic_number, magic, header_size, content_length, auth_length, header_length, request_length}
use Rattle.wire.proofs.TestLaws.{and_left, and_right}
use Rattle.wire.proofs.NumberLaws.{field_append}
use Rattle.stream.specs.Frame.{legal_start, oversized, unfinished, bad_start, skipped, whole, next}
use Rattle.stream.specs.Rules.{Judgement, judge}

-- ---- fields

pub legal_start_append : (s x : List ℕ) → 6 ≤ length s → legal_start (s ++ x) ≡ legal_start s
unfolding legal_start
legal_start_append s x h = rw (field_append 0 4 s x (omega arith), field_append 4 2 s x (omega arith))

pub header_size_append : (s x : List ℕ) → 6 ≤ length s → header_size (s ++ x) ≡ header_size s
header_size_append s x h = field_append 4 2 s x (omega arith)

pub request_length_append : (s x : List ℕ) → 28 ≤ length s → request_length (s ++ x) ≡ request_length s
request_length_append s x h =
    rw (field_append 4 2 s x (omega arith), field_append 20 4 s x (omega arith), field_append 24 2 s x (omega arith))

pub oversized_append : (s x : List ℕ) → 28 ≤ length s → oversized (s ++ x) ≡ oversized s
unfolding oversized
oversized_append s x h = rw (field_append 20 4 s x (omega arith), field_append 24 2 s x (omega arith))

-- a good header has at least 28 bytes
pub legal_size : (s : List ℕ) → legal_start s ≡ true → 22 ≤ header_size s
unfolding legal_start
legal_size s h = leb-true _ _ (and_left _ (leb (header_size s) 64) (and_right (eqb (magic s) magic_number) _ h))

-- ---- the cases of `next`, each with what it rests on

pub next_short : (s : List ℕ) → length s < 6 → next s ≡ unfinished
unfolding next
next_short s h = rw (lt-ltb (length s) 6 h, next)

pub next_bad : (s : List ℕ) → 6 ≤ length s → legal_start s ≡ false → next s ≡ bad_start
unfolding next
next_bad s h l = rw (le-ltb (length s) 6 h, l, next)

pub next_header : (s : List ℕ) → 6 ≤ length s → legal_start s ≡ true → length s < header_length s → next s ≡ unfinished
unfolding next
next_header s h l k = rw (le-ltb (length s) 6 h, l, lt-ltb (length s) (header_length s) k, next)

pub next_body : (s : List ℕ) → legal_start s ≡ true → header_length s ≤ length s → length s < request_length s → oversized s ≡ false → next s ≡ unfinished
unfolding next
next_body s l k m o =
    rw (le-ltb (length s) 6 (omega arith), l, le-ltb (length s) (header_length s) k, lt-ltb (length s) (request_length s) m, o, next)

pub next_skipped : (s : List ℕ) → legal_start s ≡ true → header_length s ≤ length s → length s < request_length s → oversized s ≡ true
    → next s ≡ skipped (take (header_length s) s) (request_length s - length s)
unfolding next
next_skipped s l k m o =
    rw (le-ltb (length s) 6 (omega arith), l, le-ltb (length s) (header_length s) k, lt-ltb (length s) (request_length s) m, o, next)

pub next_whole : (s : List ℕ) → legal_start s ≡ true → request_length s ≤ length s → next s ≡ whole (request_length s)
unfolding next
next_whole s l m =
    rw (le-ltb (length s) 6 (omega arith), l, le-ltb (length s) (header_length s) (omega arith), le-ltb (length s) (request_length s) m, next)

-- a beginning of a request that an open connection holds
pub data Unfinished (s : List ℕ) : Type 0 where
  short : length s < 6 → Unfinished s
  in_header : 6 ≤ length s → legal_start s ≡ true → length s < header_length s → Unfinished s
  in_body : legal_start s ≡ true → header_length s ≤ length s → length s < request_length s → oversized s ≡ false → Unfinished s

-- a beginning of an oversized request, its header whole
pub record Skipped (s : List ℕ) : Type 0 where
  pub legal : legal_start s ≡ true
  pub header : header_length s ≤ length s
  pub more : length s < request_length s
  pub large : oversized s ≡ true

pub data Shape (s : List ℕ) : Type 0 where
  is_unfinished : Unfinished s → Shape s
  is_bad : 6 ≤ length s → legal_start s ≡ false → Shape s
  is_skipped : Skipped s → Shape s
  is_whole : legal_start s ≡ true → request_length s ≤ length s → Shape s

pub shape : (s : List ℕ) → Shape s
shape s = size (ltb (length s) 6) refl
  where
    over : legal_start s ≡ true → header_length s ≤ length s → length s < request_length s → (b : Bool) → oversized s ≡ b → Shape s
    over l k m true o = is_skipped (record { legal = l; header = k; more = m; large = o })
    over l k m false o = is_unfinished (in_body l k m o)

    end : legal_start s ≡ true → header_length s ≤ length s → (b : Bool) → ltb (length s) (request_length s) ≡ b → Shape s
    end l k true e = over l k (ltb-true _ _ e) (oversized s) refl
    end l k false e = is_whole l (ltb-false _ _ e)

    head : 6 ≤ length s → legal_start s ≡ true → (b : Bool) → ltb (length s) (header_length s) ≡ b → Shape s
    head h l true e = is_unfinished (in_header h l (ltb-true _ _ e))
    head h l false e = end l (ltb-false _ _ e) (ltb (length s) (request_length s)) refl

    begin : 6 ≤ length s → (b : Bool) → legal_start s ≡ b → Shape s
    begin h true l = head h l (ltb (length s) (header_length s)) refl
    begin h false l = is_bad h l

    size : (b : Bool) → ltb (length s) 6 ≡ b → Shape s
    size true e = is_unfinished (short (ltb-true _ _ e))
    size false e = begin (ltb-false _ _ e) (legal_start s) refl

pub next_unfinished : (s : List ℕ) → Unfinished s → next s ≡ unfinished
next_unfinished s (short h) = next_short s h
next_unfinished s (in_header h l k) = next_header s h l k
next_unfinished s (in_body l k m o) = next_body s l k m o

-- ---- more bytes behind

-- a request that is whole stays so
pub whole_append : (s x : List ℕ) → legal_start s ≡ true → request_length s ≤ length s → next (s ++ x) ≡ whole (request_length s)
whole_append s x l m =
    let big : 22 ≤ header_size s = legal_size s l in
    let e : request_length (s ++ x) ≡ request_length s = request_length_append s x (omega arith) in
    let l' : legal_start (s ++ x) ≡ true = legal_start_append s x (omega arith) ∙ l in
    let k : length (s ++ x) ≡ length s + length x = length-append s x in
    next_whole (s ++ x) l' (omega arith) ∙ ap whole e

pub bad_append : (s x : List ℕ) → 6 ≤ length s → legal_start s ≡ false → next (s ++ x) ≡ bad_start
bad_append s x h l =
    let k : length (s ++ x) ≡ length s + length x = length-append s x in
    next_bad (s ++ x) (omega arith) (legal_start_append s x h ∙ l)

-- a bad start lies behind fewer than six bytes
pub bad_behind : (s x : List ℕ) → Unfinished s → legal_start (s ++ x) ≡ false → length s < 6
bad_behind s x (short h) l = h
bad_behind s x (in_header h l₀ k₀) l = absurd (true≢false (sym l₀ ∙ sym (legal_start_append s x h) ∙ l))
bad_behind s x (in_body l₀ k₀ m₀ o₀) l = absurd (true≢false (sym l₀ ∙ sym (legal_start_append s x (omega arith)) ∙ l))

-- a request ends behind its unfinished beginnings
pub whole_behind : (s x : List ℕ) → Unfinished s → legal_start (s ++ x) ≡ true → length s < request_length (s ++ x)
whole_behind s x u l = go u (legal_size _ l)
  where
    go : Unfinished s → 22 ≤ header_size (s ++ x) → length s < request_length (s ++ x)
    go (short h) big = omega arith
    go (in_header h l₀ k₀) big =
        let e : header_size (s ++ x) ≡ header_size s = header_size_append s x h in
        omega arith
    go (in_body l₀ k₀ m₀ o₀) big =
        let big₀ : 22 ≤ header_size s = legal_size s l₀ in
        let e : request_length (s ++ x) ≡ request_length s = request_length_append s x (omega arith) in
        omega arith

module _ (s : List ℕ) (b : ℕ) where
  pub length_snoc : length (s ++ (b ∷ [])) ≡ suc (length s)
  length_snoc = length-append s (b ∷ []) ∙ omega arith

  -- an unfinished request becomes whole at its last byte
  pub whole_last : Unfinished s → legal_start (s ++ (b ∷ [])) ≡ true → request_length (s ++ (b ∷ [])) ≤ length (s ++ (b ∷ []))
      → request_length (s ++ (b ∷ [])) ≡ length (s ++ (b ∷ []))
  whole_last u l m = omega (arith, whole_behind s (b ∷ []) u l, length_snoc)

  -- a bad start shows at the sixth byte
  pub bad_last : Unfinished s → 6 ≤ length (s ++ (b ∷ [])) → legal_start (s ++ (b ∷ [])) ≡ false → length (s ++ (b ∷ [])) ≡ 6
  bad_last u m l = omega (arith, bad_behind s (b ∷ []) u l, length_snoc)

-- ---- what a whole header says

-- stays so whatever follows
pub record Told (x y : List ℕ) : Type 0 where
  pub legal : legal_start x ≡ legal_start y
  pub large : oversized x ≡ oversized y
  pub long : header_length x ≡ header_length y
  pub more : content_length x + auth_length x ≡ content_length y + auth_length y

pub told : (s x : List ℕ) → 28 ≤ length s → Told (s ++ x) s
told s x h = record {
  legal = legal_start_append s x (omega arith);
  large = oversized_append s x h;
  long = ap (λ (n : ℕ). 6 + n) (header_size_append s x (omega arith));
  more = ap₂ ◌+◌ (field_append 20 4 s x (omega arith)) (field_append 24 2 s x (omega arith));
}

pub header_told : (s : List ℕ) → legal_start s ≡ true → header_length s ≤ length s → Told s (take (header_length s) s)
header_told s l h =
    let big : 22 ≤ header_size s = legal_size s l in
    let n : length (take (header_length s) s) ≡ header_length s = length-take-le (header_length s) s h in
    subst (λ (x : List ℕ). Told x (take (header_length s) s)) (take-append-drop (header_length s) s)
    (told (take (header_length s) s) (drop (header_length s) s) (omega arith))

-- the header of an oversized request tells its length
pub header_length_lem : (s : List ℕ) → Skipped s → request_length (take (header_length s) s) ≡ request_length s
header_length_lem s k = let t = header_told s k.legal k.header in omega (arith, t.long, t.more)

module _ (s x : List ℕ) (k : Skipped s) where
  skipped_told : Told (s ++ x) s
  skipped_told = told s x (omega (arith, legal_size s k.legal, k.header))

  skipped_header : take (header_length (s ++ x)) (s ++ x) ≡ take (header_length s) s
  skipped_header = ap (λ (n : ℕ). take n (s ++ x)) skipped_told.long ∙ take-append-le (header_length s) s x k.header

  -- bytes of an oversized request, the last not among them, and among them
  pub skipped_stays : length x < request_length s - length s
      → next (s ++ x) ≡ skipped (take (header_length s) s) (request_length s - length s - length x)
  skipped_stays m =
      let t = skipped_told in
      let long = t.long in
      let more = t.more in
      let n : length (s ++ x) ≡ length s + length x = length-append s x in
      let h : header_length s ≤ length s = k.header in
      next_skipped (s ++ x) (t.legal ∙ k.legal) (omega arith) (omega arith) (t.large ∙ k.large) ∙ ap₂ skipped skipped_header (omega arith)

  pub skipped_ends : request_length s - length s ≤ length x → next (s ++ x) ≡ whole (request_length s)
  skipped_ends m =
      let t = skipped_told in
      let long = t.long in
      let more = t.more in
      let n : length (s ++ x) ≡ length s + length x = length-append s x in
      let h : length s < request_length s = k.more in
      next_whole (s ++ x) (t.legal ∙ k.legal) (omega arith) ∙ ap whole (omega arith)

pub judge_large : {Reg Count Out : Type 0} (J : Judgement Reg Count Out) (registry : Reg) (counts : Count) (s x : List ℕ) → Skipped s
    → judge J registry counts (s ++ x) ≡ J.on_oversized registry counts (take (header_length s) s)
unfolding judge
judge_large J registry counts s x k =
    rw ((skipped_told s x k).large, k.large, judge) (ap (J.on_oversized registry counts) (skipped_header s x k))
