-- Laws of format 2's lists, four bytes an entry: a body with one is read as a body with bytes, and a list is taken apart.
use Rattle.std.proofs.Common.{Option, Some, None, Result, Ok, Err, min}
use Rattle.std.specs.Result.{result_ok}
use Rattle.fields.specs.declared.Values.{Values as Places}
use Rattle.messages.specs.code.Places.{seen}
use Rattle.wire.proofs.ListLaws.{length_part}
use Prim.Native.Nat.{ℕ, zero, suc, ◌+◌, ◌*◌, ◌/◌, ◌%◌, ◌≤◌, ◌<◌}
use native.Mathlib.Omega.{arith}
use native.Mathlib.Numerals.{add-one}
use mathlib.Core.Path.{◌≡◌, refl, sym, ap, ap₂, ◌∙◌}
use mathlib.Core.Bool.{Bool, true, false, ◌&&◌}
use mathlib.Core.List.{List, [], ◌∷◌, ◌++◌, map}
use lib.ListN.{length, take, drop, set, length-append}
use lib.Seq.{append_snoc, take_all, drop-cons, drop-drop, set-append_seam}
use lib.Dec.{ltb, leb, eqb}
use borrow.Author.Tests.{eq-eqb, ne_eqb, eqb-true, ltb-true, ltb-false}
use Rattle.wire.specs.Choice.{when◌then◌else◌}
use Rattle.wire.specs.Lists.{over, blocks}
use Rattle.wire.specs.Numbers.{little_endian}
use Rattle.wire.specs.Numbers as wire
use Rattle.wire.specs.Scan.{on, out, follow, scan_at}
use Rattle.wire.proofs.ScanLaws.{scan_end, scan_on}
use Rattle.records.specs.Records.{record_length, record_in, is_whole}
use Rattle.messages.specs.Message.{Kind, bytes, uint32s, Value, octets, numbers, octets_of, numbers_of, value_at, Schema, Message}
use Rattle.messages.specs.Format.{Field, field, unreadable, field_with, listed, Reading, read, broken, SoFar, turn_of, turn_at, read_message}
use Rattle.messages.specs.Tagged.{fours, of_value, tagged_at, tagged}
use Rattle.messages.specs.Operations.{when_read, read_body}
use Rattle.messages.specs.Placed.{read_list_outcome}
use Rattle.messages.specs.declared.format.BodyFormat.TheVariants.{Tagged}
use Rattle.messages.proofs.RoundTrip.{turn_ahead}
use Rattle.messages.proofs.TaggedLaws.{tagged_lawful}

-- ---- a body with one field, of any kind

module _ (body : List ℕ) where
  -- whether a record of field 1 stands there, its value, and the place behind it
  abbrev stands : ℕ → Bool
  stands at = is_whole (drop at body) && eqb (record_in (drop at body)).tag 1

  abbrev value : ℕ → List ℕ
  value at = (record_in (drop at body)).value

  abbrev behind : ℕ → ℕ
  behind at = at + record_length (drop at body)

  module _ (k : Kind) where
    abbrev schema : Schema
    schema = k ∷ []

    abbrev end : SoFar → Reading
    end so = read so.1

    abbrev from : ℕ → SoFar → Reading
    from at so = scan_at (turn_at tagged schema body) end (length body) at so

    one_field : (at : ℕ) → tagged_at schema body at ≡ (when stands at then field_with 1 (behind at) (of_value (value at) k) else unreadable)
    unfolding tagged_at listed
    one_field at = go (is_whole (drop at body)) refl (eqb (record_in (drop at body)).tag 1) refl
      where
        go : (w : Bool) → is_whole (drop at body) ≡ w → (t : Bool) → eqb (record_in (drop at body)).tag 1 ≡ t
            → tagged_at schema body at ≡ (when stands at then field_with 1 (behind at) (of_value (value at) k) else unreadable)
        go false e t q = rw (e, tagged_at)
        go true e false q = rw (e, q, tagged_at)
        go true e true q = rw (e, q, tagged_at) (ap (λ (n : ℕ). field_with n (behind at) (of_value (value at) k)) (eqb-true _ _ q))

    module _ (at : ℕ) (so : SoFar) (h : at < length body) where
      turned : (f : Field) → tagged_at schema body at ≡ f → from at so ≡ follow (turn_of tagged at so f) from
      turned f e =
          scan_on (turn_at tagged schema body) end (length body) (turn_ahead tagged tagged_lawful schema body) at so h
          ∙ ap (λ (x : Field). follow (turn_of tagged at so x) from) e

      unread : stands at ≡ false → from at so ≡ broken at
      unread e = turned unreadable (one_field at ∙ rw e)

      no_value : stands at ≡ true → of_value (value at) k ≡ None → from at so ≡ broken at
      no_value e n = turned unreadable (one_field at ∙ rw e (ap (field_with 1 (behind at)) n))

      a_value : (v : Value) → stands at ≡ true → of_value (value at) k ≡ Some v
          → from at so ≡ (when ltb so.0 1 then from (behind at) (1, set so.1 0 v) else broken at)
      a_value v e n = turned (field 1 v (behind at)) (one_field at ∙ rw e (ap (field_with 1 (behind at)) n)) ∙ go (ltb so.0 1)
        where
          go : (t : Bool) → follow (when t then on (1, set so.1 0 v) (behind at) else out (broken at)) from
              ≡ (when t then from (behind at) (1, set so.1 0 v) else broken at)
          go true = refl
          go false = refl

    -- behind field 1 no other is read
    second : (at : ℕ) (m : Message) → at < length body → from at (1, m) ≡ broken at
    second at m h = go (stands at) refl (of_value (value at) k) refl
      where
        go : (t : Bool) → stands at ≡ t → (o : Option Value) → of_value (value at) k ≡ o → from at (1, m) ≡ broken at
        go false e o q = unread at (1, m) h e
        go true e None q = no_value at (1, m) h e q
        go true e (Some v) q = a_value at (1, m) h v e q

    after : (at : ℕ) (m : Message) → from at (1, m) ≡ (when ltb at (length body) then broken at else read m)
    after at m = go (ltb at (length body)) refl
      where
        go : (t : Bool) → ltb at (length body) ≡ t → from at (1, m) ≡ (when t then broken at else read m)
        go true e = second at m (ltb-true _ _ e)
        go false e = scan_end (turn_at tagged schema body) end (length body) at (1, m) (ltb-false _ _ e)

-- ---- a list's body, read as one with bytes

-- the entries of the bytes that were read
abbrev pub as_fours : Reading → Option (List ℕ)
as_fours (read m) = when eqb (length (octets_of (value_at m 1)) % 4) 0 then Some (fours (octets_of (value_at m 1))) else None
as_fours (broken at) = None

module _ (s : List ℕ) where
  pub are_fours : length s % 4 ≡ 0 → as_fours (read (octets s ∷ [])) ≡ Some (fours s)
  are_fours e = rw (eq-eqb (length s % 4) 0 e)

  pub no_fours : (length s % 4 ≡ 0 → ⊥) → as_fours (read (octets s ∷ [])) ≡ None
  no_fours e = rw (ne_eqb (length s % 4) 0 e)

abbrev list_of : Message → List ℕ
list_of m = numbers_of (value_at m 1)

module _ (body : List ℕ) where
  abbrev as_bytes : Reading
  as_bytes = from body bytes 0 (0, octets [] ∷ [])

  abbrev as_list : Reading
  as_list = from body uint32s 0 (0, numbers [] ∷ [])

  agree : (b l : Reading) → as_bytes ≡ b → as_list ≡ l → when_read list_of l ≡ as_fours b → when_read list_of as_list ≡ as_fours as_bytes
  agree b l e q a = ap (when_read list_of) q ∙ a ∙ sym (ap as_fours e)

  one_record : 0 < length body → stands body 0 ≡ true → when_read list_of as_list ≡ as_fours as_bytes
  one_record h e = go (leb 1 (length v)) refl (eqb (length v % 4) 0) refl
    where
      v : List ℕ
      v = value body 0

      next : ℕ
      next = behind body 0

      go : (a : Bool) → leb 1 (length v) ≡ a → (b : Bool) → eqb (length v % 4) 0 ≡ b → when_read list_of as_list ≡ as_fours as_bytes
      go false p b q = agree (broken 0) (broken 0) (no_value body bytes 0 _ h e (rw p)) (no_value body uint32s 0 _ h e (rw p)) refl
      go true p false q =
          agree _ (broken 0) (a_value body bytes 0 _ h (octets v) e (rw p) ∙ after body bytes next (octets v ∷ [])) (no_value body uint32s 0 _ h e (rw (p, q)))
          (ends (ltb next (length body)))
        where
          ends : (t : Bool) → None ≡ as_fours (when t then broken next else read (octets v ∷ []))
          ends true = refl
          ends false = rw q
      go true p true q =
          agree _ _ (a_value body bytes 0 _ h (octets v) e (rw p) ∙ after body bytes next (octets v ∷ []))
          (a_value body uint32s 0 _ h (numbers (fours v)) e (rw (p, q)) ∙ after body uint32s next (numbers (fours v) ∷ []))
          (ends (ltb next (length body)))
        where
          ends : (t : Bool) → when_read list_of (when t then broken next else read (numbers (fours v) ∷ [])) ≡ as_fours (when t then broken next else read (octets v ∷ []))
          ends true = refl
          ends false = rw q

  same_list : when_read list_of as_list ≡ as_fours as_bytes
  same_list = go (ltb 0 (length body)) refl
    where
      go : (t : Bool) → ltb 0 (length body) ≡ t → when_read list_of as_list ≡ as_fours as_bytes
      go false e =
          let h : length body ≤ 0 = ltb-false _ _ e in
          agree (read (octets [] ∷ [])) (read (numbers [] ∷ []))
          (scan_end (turn_at tagged (bytes ∷ []) body) (λ so. read so.1) (length body) 0 (0, octets [] ∷ []) h)
          (scan_end (turn_at tagged (uint32s ∷ []) body) (λ so. read so.1) (length body) 0 (0, numbers [] ∷ []) h)
          refl
      go true e = first (stands body 0) refl
        where
          h : 0 < length body
          h = ltb-true _ _ e

          first : (t : Bool) → stands body 0 ≡ t → when_read list_of as_list ≡ as_fours as_bytes
          first true q = one_record h q
          first false q = agree (broken 0) (broken 0) (unread body bytes 0 _ h q) (unread body uint32s 0 _ h q) refl

  pub fours_body : (o : Reading) → o ≡ read_message tagged (bytes ∷ []) body → as_fours o ≡ read_body tagged (uint32s ∷ []) body list_of
  unfolding read_body read_message
  fours_body o e = ap as_fours e ∙ sym same_list

-- ---- the same by the place of the bytes

module _ (body : List ℕ) where
  abbrev in_bytes : Result Places ℕ → Reading
  in_bytes r = seen body (bytes ∷ []) r

  abbrev whole : Option (List ℕ)
  whole = read_body tagged (uint32s ∷ []) body list_of

  pub fours_broken : (r : Result Places ℕ) → in_bytes r ≡ read_message tagged (bytes ∷ []) body → None ≡ result_ok r → None ≡ whole
  fours_broken (Ok m) same e = cc
  fours_broken (Err at) same e = fours_body body (broken at) same

  abbrev part : Places → List ℕ
  part m = take m.f1.len (drop m.f1.start body)

  by_place : (r : Result Places ℕ) → in_bytes r ≡ read_message tagged (bytes ∷ []) body → (m : Places) → Some m ≡ result_ok r → as_fours (read (octets (part m) ∷ [])) ≡ whole
  by_place (Ok n) same m e = let is : m ≡ n = cc in rw is (fours_body body (read (octets (part n) ∷ [])) same)
  by_place (Err at) same m e = cc

  module _ (r : Result Places ℕ) (same : in_bytes r ≡ read_message tagged (bytes ∷ []) body) (m : Places) (is : Some m ≡ result_ok r)
      (within : m.f1.start + m.f1.len ≤ length body) where
    pub fours_partial : (m.f1.len % 4 ≡ 0 → ⊥) → None ≡ whole
    fours_partial h = sym (no_fours (part m) (λ z. h (ap (λ (n : ℕ). n % 4) (sym (length_part body m.f1.start m.f1.len within)) ∙ z))) ∙ by_place r same m is

    pub fours_read : m.f1.len % 4 ≡ 0 → Some (fours (part m)) ≡ whole
    fours_read h = sym (are_fours (part m) (ap (λ (n : ℕ). n % 4) (length_part body m.f1.start m.f1.len within) ∙ h)) ∙ by_place r same m is

-- ---- a list taken apart

abbrev first_fours : ℕ → List ℕ → List ℕ
first_fours n s = map little_endian (blocks n 4 s)

length_fours : (n : ℕ) (s : List ℕ) → length (first_fours n s) ≡ n
length_fours zero s = refl
length_fours (suc n) s = ap suc (length_fours n (drop 4 s))

one_more : (n : ℕ) (s : List ℕ) → first_fours (suc n) s ≡ first_fours n s ++ (little_endian (take 4 (drop (4 * n) s)) ∷ [])
one_more zero s = refl
one_more (suc n) s =
    let at : 4 + 4 * n ≡ 4 * suc n = omega arith in
    ap (λ (l : List ℕ). little_endian (take 4 s) ∷ l) (one_more n (drop 4 s))
    ∙ ap (λ (l : List ℕ). little_endian (take 4 s) ∷ (first_fours n (drop 4 s) ++ (little_endian (take 4 l) ∷ [])))
    (drop-drop (4 * n) 4 s ∙ ap (λ (j : ℕ). drop j s) at)

take_fours : (j n : ℕ) (s : List ℕ) → j ≤ n → take j (first_fours n s) ≡ first_fours j s
take_fours zero n s h = refl
take_fours (suc j) zero s h = absurd (omega arith)
take_fours (suc j) (suc n) s h = ap (λ (l : List ℕ). little_endian (take 4 s) ∷ l) (take_fours j n (drop 4 s) (omega arith))

-- `count` entries stand over the front of the room
pub record Fours (s room now' : List ℕ) (count : ℕ) : Type 0 where
  pub few : count ≤ length room
  pub written : now' ≡ over (first_fours count s) room

pub fours_none : (s room : List ℕ) → Fours s room room 0
fours_none s room = record { few = omega arith; written = refl }

module _ {s room now' : List ℕ} {count : ℕ} (f : Fours s room now' count) where
  pub fours_on : (v : ℕ) → count < length room → v ≡ wire.field (4 * count) 4 s → Fours s room (set now' count v) (count + 1)
  unfolding wire.field
  fours_on v fits is =
      let n : List ℕ = first_fours count s in
      let m : count ≡ length n = sym (length_fours count s) in
      let one : length (n ++ (v ∷ [])) ≡ length n + 1 = length-append n (v ∷ []) in
      let room' : length n < length room = omega arith in
      let next : first_fours (count + 1) s ≡ n ++ (v ∷ [])
      = ap (λ (j : ℕ). first_fours j s) (add-one count) ∙ one_more count s ∙ ap (λ (x : ℕ). n ++ (x ∷ [])) (sym is) in
      record {
        few = omega arith;
        written =
            ap₂ (λ (a : List ℕ) (j : ℕ). set a j v) (f.written ∙ ap (λ (x : List ℕ). n ++ x) (drop-cons room (length n) 0 room')) m
            ∙ set-append_seam n _ _ v
            ∙ sym (append_snoc n v _)
            ∙ ap (λ (j : ℕ). n ++ (v ∷ []) ++ drop j room) (sym (one ∙ add-one (length n)))
            ∙ ap (λ (l : List ℕ). over l room) (sym next);
      }

  outcome : take (length room) (fours s) ≡ first_fours count s → record { count = count; entries = now' } ≡ read_list_outcome Tagged s room
  unfolding read_list_outcome
  outcome e =
      let many : count ≡ length (take (length room) (fours s)) = sym (length_fours count s) ∙ ap length (sym e) in
      let same : now' ≡ over (take (length room) (fours s)) room = f.written ∙ ap (λ (l : List ℕ). over l room) (sym e) in
      λ i. record { count = many i; entries = same i }

  -- the room is full, or no whole entry is left
  pub fours_end : count ≡ min (length room) (length s / 4) → record { count = count; entries = now' } ≡ read_list_outcome Tagged s room
  fours_end e = outcome (go (ltb (length room) (length s / 4)) refl)
    where
      go : (t : Bool) → ltb (length room) (length s / 4) ≡ t → take (length room) (fours s) ≡ first_fours count s
      go true q =
          let h = ltb-true _ _ q in
          let m : length room ≡ count = omega arith in
          take_fours (length room) (length s / 4) s (omega arith) ∙ ap (λ (j : ℕ). first_fours j s) m
      go false q =
          let h = ltb-false _ _ q in
          let m : length s / 4 ≡ count = omega arith in
          take_all (length room) (fours s) (omega (arith, length_fours (length s / 4) s)) ∙ ap (λ (j : ℕ). first_fours j s) m
