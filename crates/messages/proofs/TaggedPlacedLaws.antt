-- Laws of format 2 read where it lies: the values of each kind, the kinds that the code has, and the plain equations of the scan.
use Rattle.std.proofs.Common.{Option, Some, None, option_and_then, Ok}
use Prim.Native.Nat.{ℕ, ◌+◌, ◌-◌, ◌≤◌, ◌<◌}
use native.Mathlib.Omega.{arith}
use mathlib.Core.Path.{◌≡◌, refl, sym, ap, ◌∙◌}
use mathlib.Core.Bool.{Bool, true, false, and-false}
use mathlib.Core.List.{List, [], ◌∷◌}
use lib.ListN.{length, take, drop, get_or, length-drop}
use lib.Seq.{drop-drop}
use lib.Dec.{eqb}
use borrow.Author.Tests.{lt-ltb, le-ltb}
use Rattle.wire.specs.Choice.{when◌then◌else◌}
use Rattle.wire.specs.Numbers.{little_endian}
use Rattle.wire.specs.Numbers as wire
use Rattle.wire.specs.Scan.{follow, scan_at}
use Rattle.wire.proofs.BufferLaws.{lent}
use Rattle.wire.proofs.ScanLaws.{scan_end, scan_on}
use Rattle.wire.proofs.NumberLaws.{field_byte}
use Rattle.records.proofs.RecordLaws.{whole_room}
use Rattle.records.specs.Records.{record_length, record_in, is_whole}
use Rattle.fields.specs.code.Fields as fields
use Rattle.fields.specs.declared.Schema.{Schema as SchemaPlaced}
use Rattle.fields.specs.declared.Value.{Value as Place}
use Rattle.fields.specs.declared.Values.{Values as Places}
use Rattle.messages.specs.Message.{Kind, uint32, bool, bytes, uint32s, Value, Schema, Message, kind_at}
use Rattle.messages.specs.Format.{Field, field, unreadable, field_with, listed, Reading, read, broken, SoFar, turn_of, turn_at, read_message}
use Rattle.messages.specs.Tagged.{of_value, tagged_at, tagged}
use Rattle.messages.specs.code.Places.{kind_placed, schema_placed, NoLists, value_of, values_of, five, seen}
use Rattle.messages.specs.code.TaggedPlaces.{kind_in, value_for, field_placed, field_in}
use Rattle.messages.proofs.RoundTrip.{turn_ahead}
use Rattle.messages.proofs.PlacesLaws.{no_list_at, kind_same, put_same, none_read}
use Rattle.messages.proofs.TaggedLaws.{tagged_lawful}

-- ---- a value of each kind

pub not_one : (s : List ℕ) → (length s ≡ 1 → ⊥) → of_value s bool ≡ None
not_one [] h = refl
not_one (b ∷ []) h = absurd (h refl)
not_one (b ∷ c ∷ s) h = rw (and-false (eqb b 1))

-- ---- the field at a place

-- the record at `at`, as it is read in the bytes from there on
module _ (body : List ℕ) (at : ℕ) where
  abbrev rest : List ℕ
  rest = take (length body - at) (drop at body)

  whole_there : (w : Bool) → w ≡ is_whole rest → is_whole (drop at body) ≡ w
  whole_there w e = sym (e ∙ ap is_whole (lent at body))

  pub field_cut : (schema : SchemaPlaced) → false ≡ is_whole rest → unreadable ≡ field_placed schema body at
  unfolding field_placed
  field_cut schema e = rw (whole_there false e, field_placed)

  module _ (w : true ≡ is_whole rest) where
    pub record_room : (3 ≤ length rest) × (3 ≤ record_length rest) × (at + record_length rest ≤ length body)
    record_room =
        let r = whole_room (drop at body) (whole_there true w) in
        let d = length-drop at body in
        rw (lent at body) (omega arith, omega arith, omega arith)

    pub field_here :
        (schema : SchemaPlaced) (n size : ℕ) (o : Option Value) →
        n ≡ get_or rest 0 0 →
        size ≡ record_length rest →
        o ≡ option_and_then (of_value (take (size - 3) (drop (at + 3) body))) (kind_in (fields.kind_of schema n)) →
        field_with n (at + size) o ≡ field_placed schema body at
    unfolding field_placed
    field_here schema n size o q s e =
        let there : List ℕ = drop at body in
        let whole : is_whole there ≡ true = whole_there true w in
        let tag : wire.field 0 1 there ≡ n = field_byte 0 there (omega (arith, whole_room there whole)) ∙ sym (q ∙ ap (λ (l : List ℕ). get_or l 0 0) (lent at body)) in
        let long : size ≡ record_length there = s ∙ ap record_length (lent at body) in
        let len : size - 3 ≡ wire.field 1 2 there = omega arith in
        rw (e, whole, tag, ← long, ← len, drop-drop)

module _ (kinds : Schema) (few : length kinds ≤ 5) (no-lists : NoLists kinds) (schema : SchemaPlaced) (is : schema ≡ schema_placed kinds) where
  placed_kind : (n : ℕ) → kind_in (fields.kind_of schema n) ≡ kind_at kinds n
  placed_kind n = ap (λ (s : SchemaPlaced). kind_in (fields.kind_of s n)) is ∙ ap kind_in (kind_same kinds few n) ∙ go (kind_at kinds n) refl
    where
      go : (o : Option Kind) → kind_at kinds n ≡ o → kind_in (kind_placed o) ≡ o
      go None e = refl
      go (Some uint32) e = refl
      go (Some bool) e = refl
      go (Some bytes) e = refl
      go (Some uint32s) e = absurd (no_list_at kinds n no-lists e)

  field_placed_lem : (body : List ℕ) (at : ℕ) → field_placed schema body at ≡ tagged_at kinds body at
  unfolding field_placed tagged_at listed
  field_placed_lem body at =
      let rest : List ℕ = drop at body in
      ap (λ (o : Option Kind). when is_whole rest then field_with (record_in rest).tag (at + record_length rest) (option_and_then (of_value (record_in rest).value) o) else unreadable)
      (placed_kind (record_in rest).tag)

  -- ---- the scan

  module _ (body : List ℕ) where
    abbrev end : SoFar → Reading
    end so = read so.1

    abbrev from : ℕ → SoFar → Reading
    from at so = scan_at (turn_at tagged kinds body) end (length body) at so

    -- reading on from `at`, with these values so far
    abbrev pub scan : (at last : ℕ) → Places → Reading
    scan at last m = from at (last, values_of body kinds (five m))

    pub begins : scan 0 0 fields.all_absent ≡ read_message tagged kinds body
    unfolding read_message
    begins = ap (λ (m : Message). from 0 (0, m)) (sym (none_read body kinds 5))

    module _ (at last : ℕ) (m : Places) where
      pub ends : length body ≤ at → scan at last m ≡ seen body kinds (Ok m)
      ends h = scan_end (turn_at tagged kinds body) end (length body) at (last, values_of body kinds (five m)) h

      module _ (h : at < length body) where
        here : (f : Field) → f ≡ tagged_at kinds body at → scan at last m ≡ follow (turn_of tagged at (last, values_of body kinds (five m)) f) from
        here f e =
            scan_on (turn_at tagged kinds body) end (length body) (turn_ahead tagged tagged_lawful kinds body) at (last, values_of body kinds (five m)) h
            ∙ ap (λ (x : Field). follow (turn_of tagged at (last, values_of body kinds (five m)) x) from) (sym e)

        pub breaks : unreadable ≡ field_placed schema body at → scan at last m ≡ broken at
        breaks e = here unreadable (e ∙ field_placed_lem body at)

        module _ (n : ℕ) (v : Place) (next : ℕ) (there : kind_in (fields.kind_of schema n) ≡ None → ⊥)
            (e : field_in body schema (Some (n, v, next)) ≡ field_placed schema body at) where
          abbrev At-kind : Option Kind → Type 0
          At-kind o = field_with n next (value_for body o v) ≡ tagged_at kinds body at

          stands : (o : Option Kind) → kind_at kinds n ≡ o → At-kind o
          stands o q = ap (λ (x : Option Kind). field_with n next (value_for body x v)) (sym q ∙ sym (placed_kind n)) ∙ e ∙ field_placed_lem body at

          pub goes_on : last < n → scan at last m ≡ scan next n (fields.with_value m n v)
          goes_on l = go (kind_at kinds n) refl
            where
              go : (o : Option Kind) → kind_at kinds n ≡ o → scan at last m ≡ scan next n (fields.with_value m n v)
              go None q = absurd (there (placed_kind n ∙ q))
              go (Some kind) q =
                  here (field n (value_of body kind v) next) (stands (Some kind) q)
                  ∙ rw (lt-ltb last n l) (ap (λ (x : Message). from next (n, x)) (put_same kinds body few no-lists n kind (last, values_of body kinds (five m)) m v q refl))

          pub falls : n ≤ last → scan at last m ≡ broken at
          falls l = go (kind_at kinds n) refl
            where
              go : (o : Option Kind) → kind_at kinds n ≡ o → scan at last m ≡ broken at
              go None q = absurd (there (placed_kind n ∙ q))
              go (Some kind) q = here (field n (value_of body kind v) next) (stands (Some kind) q) ∙ rw (le-ltb last n l)
