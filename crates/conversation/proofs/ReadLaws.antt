-- The uncut reader on a response and whatever follows it: it takes the response, to its last byte, and nothing more.
use Rattle.std.proofs.Common.{Some, None}
use mathlib.Core.Path.{◌≡◌, refl, sym, ap, ◌∙◌, subst}
use Prim.Native.Nat.{ℕ, suc, ◌+◌, ◌≤◌, ◌<◌}
use mathlib.Core.Bool.{Bool, true, false}
use mathlib.Core.List.{List, [], ◌∷◌, ◌++◌, append_assoc, append-nil}
use native.Mathlib.Omega.{arith}
use borrow.Author.Tests.{ltb-true, ltb-false, lt-ltb}
use lib.ListN.{length, length-append}
use lib.Dec.{ltb}
use Rattle.wire.specs.Choice.{first_of}
use Rattle.wire.specs.Numbers.{field}
use Rattle.wire.specs.Request.{magic_number, magic, header_size}
use Rattle.wire.specs.Response.{response_header_size, response_least, response_of, response_bytes}
use Rattle.wire.specs.declared.response.ResponseHeader.{ResponseHeader}
use Rattle.wire.proofs.NumberLaws.{field_append}
use Rattle.wire.proofs.ResponseLaws.{response_long, response_magic, response_size, response_back}
use Rattle.reading.specs.Reader.{Reader, Reading, nothing, with_event, read}
use Rattle.client_responses.specs.Reading.{Reply, response_content_most, header_tests, found_behind, found, response_reader}
use Rattle.client_responses.specs.declared.Asked.{Asked}
use Rattle.client_responses.proofs.FoundLaws.{found_short, found_header, found_whole}
use Rattle.conversation.proofs.Answered.{header_of, Its, passes}

-- ---- a response's proper beginnings say nothing yet

module _ (asked : Asked) (provider session content_type opcode status : ℕ) (body : List ℕ)
    (its : Its asked (header_of provider session content_type opcode status body)) (small : length body ≤ response_content_most) where
  abbrev response : List ℕ
  response = response_bytes provider session content_type opcode status body

  module _ (s x : List ℕ) (whole : s ++ x ≡ response) where
    same_field : (at width : ℕ) → at + width ≤ length s → field at width s ≡ field at width (response ++ [])
    same_field at width h =
        sym (field_append at width s x h) ∙ ap (field at width) (whole ∙ sym (append-nil response))

    is_magic : 6 ≤ length s → magic s ≡ magic_number
    is_magic h = same_field 0 4 (omega arith) ∙ response_magic provider session content_type opcode status body []

    is_size : 6 ≤ length s → header_size s ≡ response_header_size
    is_size h = same_field 4 2 (omega arith) ∙ response_size provider session content_type opcode status body []

    same_header : response_least ≤ length s → response_of s ≡ header_of provider session content_type opcode status body
    unfolding response_of
    same_header h =
        (λ i. record {
          major = same_field 6 1 (omega arith) i;
          minor = same_field 7 1 (omega arith) i;
          provider = same_field 8 1 (omega arith) i;
          session = same_field 9 8 (omega arith) i;
          content_type = same_field 17 1 (omega arith) i;
          content_length = same_field 18 4 (omega arith) i;
          opcode = same_field 22 2 (omega arith) i;
          status = same_field 24 2 (omega arith) i;
        })
        ∙ response_back provider session content_type opcode status body []

    behind_none : (h : ResponseHeader) → first_of (header_tests asked h) ≡ None → length s < response_least + h.content_length → found_behind asked h s ≡ None
    unfolding found_behind
    behind_none h e short = rw (e, found_behind, lt-ltb (length s) (response_least + h.content_length) short)

    in_body_lem : response_least ≤ length s → length s < response_least + length body → found asked s ≡ None
    in_body_lem h short =
        found_whole asked s (omega arith) (is_magic (omega arith)) (is_size (omega arith)) h
        ∙ ap (λ (r : ResponseHeader). found_behind asked r s) (same_header h)
        ∙ behind_none (header_of provider session content_type opcode status body) (passes asked _ refl refl its small) short

    begun : length s < length response → found asked s ≡ None
    begun h = size (ltb (length s) 6) refl (ltb (length s) response_least) refl
      where
        short : length s < response_least + length body
        short = omega (arith, h, response_long provider session content_type opcode status body [])

        size : (a : Bool) → ltb (length s) 6 ≡ a → (b : Bool) → ltb (length s) response_least ≡ b → found asked s ≡ None
        size true e b f = found_short asked s (ltb-true _ _ e)
        size false e true f = let six = ltb-false _ _ e in found_header asked s six (is_magic six) (is_size six) (ltb-true _ _ f)
        size false e false f = in_body_lem (ltb-false _ _ f) short

-- ---- the reader

module _ (asked : Asked) where
  abbrev R : Reader (List ℕ) Reply
  R = response_reader asked

  -- a reader that has ended takes nothing
  ended_still : (s : List ℕ) (y : Reply) → found asked s ≡ Some y → (rest : List ℕ) → read R s rest ≡ nothing s
  unfolding read response_reader
  ended_still s y e [] = refl
  ended_still s y e (b ∷ rest) = rw e

  -- a byte that brings nothing
  abbrev one_more : Reading (List ℕ) Reply → Reading (List ℕ) Reply
  one_more r = record { taken = suc r.taken; events = r.events; kept = r.kept }

  quiet_byte : (s : List ℕ) (b : ℕ) (rest : List ℕ) → found asked s ≡ None → found asked (s ++ (b ∷ [])) ≡ None
      → read R s (b ∷ rest) ≡ one_more (read R (s ++ (b ∷ [])) rest)
  unfolding read response_reader with_event
  quiet_byte s b rest z n = rw (z, n)

  -- bytes t behind s, of which only the last brings something
  reads_up : (t s : List ℕ) (y : Reply) (rest : List ℕ) → 0 < length t
      → ((u v : List ℕ) → u ++ v ≡ s ++ t → length u < length (s ++ t) → found asked u ≡ None)
      → found asked (s ++ t) ≡ Some y → read R s (t ++ rest) ≡ record { taken = length t; events = y ∷ []; kept = s ++ t }
  unfolding read response_reader with_event
  reads_up [] s y rest h quiet e = absurd (omega arith)
  reads_up (b ∷ []) s y rest h quiet e =
      let l = length-append s (b ∷ []) in
      let z : found asked s ≡ None = quiet s (b ∷ []) refl (omega arith) in
      rw (z, ended_still (s ++ (b ∷ [])) y e rest, e)
  reads_up (b ∷ c ∷ t) s y rest h quiet e =
      let l = length-append s (b ∷ c ∷ t) in
      let z : found asked s ≡ None = quiet s (b ∷ c ∷ t) refl (omega arith) in
      let same : (s ++ (b ∷ [])) ++ (c ∷ t) ≡ s ++ (b ∷ c ∷ t) = append_assoc s (b ∷ []) (c ∷ t) in
      let l' = length-append s (b ∷ []) in
      let n : found asked (s ++ (b ∷ [])) ≡ None = quiet (s ++ (b ∷ [])) (c ∷ t) same (omega arith) in
      let ih = reads_up (c ∷ t) (s ++ (b ∷ [])) y rest (omega arith)
      (λ u v p k. quiet u v (p ∙ same) (subst (λ (x : List ℕ). length u < length x) same k))
      (ap (found asked) same ∙ e) in
      quiet_byte s b ((c ∷ t) ++ rest) z n ∙ ap one_more ih ∙ (λ i. record { taken = suc (length (c ∷ t)); events = y ∷ []; kept = same i })

-- A RESPONSE AND WHATEVER FOLLOWS IT: the response is taken and kept, and what it is read as is the one event
pub response_read : (asked : Asked) (provider session content_type opcode status : ℕ) (body : List ℕ) → Its asked (header_of provider session content_type opcode status body)
    → length body ≤ response_content_most → (y : Reply) → found asked (response_bytes provider session content_type opcode status body) ≡ Some y → (rest : List ℕ)
    → read (response_reader asked) [] (response_bytes provider session content_type opcode status body ++ rest)
    ≡ record {
      taken = length (response_bytes provider session content_type opcode status body);
      events = y ∷ [];
      kept = response_bytes provider session content_type opcode status body;
    }
unfolding response_reader
response_read asked provider session content_type opcode status body its small y e rest =
    reads_up asked (response_bytes provider session content_type opcode status body) [] y rest (omega (arith, response_long provider session content_type opcode status body []))
    (λ u v p k. begun asked provider session content_type opcode status body its small u v p k) e
