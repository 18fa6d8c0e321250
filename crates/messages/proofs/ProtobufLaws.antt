-- Format 1 is lawful.
use Rattle.std.proofs.Common.{Option, Some, None}
use Prim.Native.Nat.{ℕ, ◌+◌, ◌*◌, ◌%◌, ◌^◌, ◌≤◌, ◌<◌}
use native.Mathlib.Omega.{arith}
use mathlib.Core.Path.{◌≡◌, refl, ap, ◌∙◌}
use mathlib.Core.Bool.{Bool, true, false, false≢true}
use mathlib.Core.List.{List, [], ◌∷◌, ◌++◌, append-nil, flat_map}
use lib.ListN.{length, take, drop, length-append, length-drop}
use lib.Seq.{append_snoc}
use lib.Dec.{ltb}
use borrow.Author.Tests.{ltb-true, eq-eqb}
use Rattle.wire.specs.Choice.{when◌then◌else◌}
use Rattle.wire.specs.Scan.{on}
use Rattle.wire.specs.Lists.{all}
use Rattle.wire.proofs.TestLaws.{either, and_left, and_right}
use Rattle.wire.proofs.ScanLaws.{scan_end, scan_on}
use Rattle.protobuf.specs.Varint.{varint_at}
use Rattle.protobuf.specs.Field as proto
use Rattle.protobuf.specs.Group.{depth_most, group_at}
use Rattle.protobuf.specs.Written.{varint, number_field, bytes_field, packed_field}
use Rattle.protobuf.specs.declared.field.Field.{Field as ProtoField}
use Rattle.protobuf.specs.declared.field.Field.TheVariants.{Number, Span, Fixed, GroupStart, GroupEnd}
use Rattle.protobuf.proofs.FieldLaws.{Ahead, FieldAhead as ProtoAhead, varint_ahead, field_ahead}
use Rattle.protobuf.proofs.GroupLaws.{GroupAhead, group_ahead}
use Rattle.protobuf.proofs.WrittenLaws.{varint_short, number_field_none}
use Rattle.protobuf.proofs.RoundTrip.{behind, reads-varint, reads-number-field, reads-bytes-field}
use Rattle.messages.specs.Message.{Kind, uint32, bool, bytes, uint32s, Value, number, flag, octets, numbers, kind_of, Schema, kind_at, absent}
use Rattle.messages.specs.Format.{Field, field, listed, Fits}
use Rattle.messages.specs.Protobuf.{protobuf_bytes, of_varint, packed_of, of_span, wire_type_of, is_of_wire, of_group, field_of, protobuf}
use Rattle.messages.proofs.PackedLaws.{turn, scan, turn_ahead}
use Rattle.messages.proofs.RoundTrip.{Present, FieldAhead, Lawful, listed-value, listed_ahead}

-- ---- a packed list

abbrev pub small : ℕ → Bool
small n = ltb n (2 ^ 32)

pub packed_length : (ns : List ℕ) → length (flat_map varint ns) ≤ 10 * length ns
unfolding flat_map
packed_length [] = omega arith
packed_length (n ∷ ns) = omega (arith, length-append (varint n) (flat_map varint ns), varint_short n, packed_length ns)

module _ (s : List ℕ) where
  packed_from : (done ns : List ℕ) (at : ℕ) → all small ns ≡ true → drop at s ≡ flat_map varint ns → scan s at done ≡ Some (numbers (done ++ ns))
  unfolding flat_map
  packed_from done [] at h e =
      rw append-nil (scan_end (turn s) (λ ns. Some (numbers ns)) (length s) at done (omega (arith, length-drop at s, ap length e)))
  packed_from done (n ∷ ns) at h e =
      let low : n < 2 ^ 32 = ltb-true _ _ (and_left (small n) (all small ns) h) in
      let next : ℕ = at + length (varint n) in
      let r : varint_at s at ≡ Some (n, next) = reads-varint s at n (flat_map varint ns) (omega arith) e in
      let a : Ahead (length s) at next = rw r at (varint_ahead 9 s at) in
      let m : n % 2 ^ 32 ≡ n = omega arith in
      let t : turn s at done ≡ on (done ++ (n ∷ [])) next = rw (r, m) in
      rw t at (scan_on (turn s) (λ ns. Some (numbers ns)) (length s) (turn_ahead s) at done (omega arith))
      ∙ rw append_snoc at (packed_from (done ++ (n ∷ [])) ns next (and_right (small n) (all small ns) h) (behind s at (varint n) (flat_map varint ns) e))

packed_back : (ns : List ℕ) → all small ns ≡ true → packed_of (flat_map varint ns) ≡ Some (numbers ns)
unfolding packed_of
packed_back ns h = packed_from (flat_map varint ns) [] ns 0 h refl

packed_some : (ns : List ℕ) → 1 ≤ length ns → all small ns ≡ true → 1 ≤ length (flat_map varint ns)
unfolding flat_map
packed_some [] p h = absurd (omega arith)
packed_some (n ∷ ns) p h =
    let low : n < 2 ^ 32 = ltb-true _ _ (and_left (small n) (all small ns) h) in
    let s : List ℕ = flat_map varint (n ∷ ns) in
    let r : varint_at s 0 ≡ Some (n, 0 + length (varint n)) = reads-varint s 0 n (flat_map varint ns) (omega arith) refl in
    let a : Ahead (length s) 0 (0 + length (varint n)) = rw r at (varint_ahead 9 s 0) in
    omega arith

-- ---- fields

leaves_out : (n : ℕ) (kind : Kind) → protobuf_bytes n (absent kind) ≡ []
unfolding bytes_field packed_field flat_map
leaves_out n uint32 = number_field_none n 0 refl
leaves_out n bool = number_field_none n 0 refl
leaves_out n bytes = refl
leaves_out n uint32s = refl

module _ (schema : Schema) (s : List ℕ) (at n : ℕ) (rest : List ℕ) (some' : 1 ≤ n) (few : n < 256) where
  abbrev read_field : Field
  read_field = field_of schema s (proto.field_at s at)

  -- a value of its kind's wire type is not skipped
  not_skipped : (wire : ℕ) (value : Value) (f g : Field) → kind_at schema n ≡ Some (kind_of value) → wire_type_of (kind_of value) ≡ wire → (when is_of_wire wire (kind_at schema n) then f else g) ≡ f
  not_skipped wire value f g k w = rw (ap (is_of_wire wire) k ∙ eq-eqb _ _ w)

  reads_number : (v : ℕ) (kind : Kind) (value : Value) → kind_at schema n ≡ Some (kind_of value) → wire_type_of (kind_of value) ≡ 0 → 1 ≤ v → v < 2 ^ 32 → of_varint v (kind_of value) ≡ Some value → drop at s ≡ number_field n v ++ rest → read_field ≡ field n value (at + length (number_field n v))
  reads_number v kind value k w p l o e =
      ap (field_of schema s) (reads-number-field s at n v rest some' (omega arith) p (omega arith) e)
      ∙ not_skipped 0 value _ _ k w
      ∙ listed-value schema n (of_varint v) (at + length (number_field n v)) value k o

  reads_span : (bs : List ℕ) (value : Value) → kind_at schema n ≡ Some (kind_of value) → wire_type_of (kind_of value) ≡ 2 → 1 ≤ length bs → length bs < 2 ^ 64 → of_span bs (kind_of value) ≡ Some value → drop at s ≡ bytes_field n bs ++ rest → read_field ≡ field n value (at + length (bytes_field n bs))
  reads_span bs value k w p l o e =
      let r = reads-bytes-field s at n bs rest some' (omega arith) p l e in
      ap (field_of schema s) r.reads
      ∙ not_skipped 2 value _ _ k w
      ∙ ap (λ (b : List ℕ). listed schema n (of_span b) (at + length (bytes_field n bs))) r.stand
      ∙ listed-value schema n (of_span bs) (at + length (bytes_field n bs)) value k o

  reads : (value : Value) → kind_at schema n ≡ Some (kind_of value) → Present value → Fits protobuf value → drop at s ≡ protobuf_bytes n value ++ rest → read_field ≡ field n value (at + length (protobuf_bytes n value))
  unfolding packed_field
  reads (number v) k p f e =
      let m : v % 2 ^ 32 ≡ v = omega arith in
      reads_number v uint32 (number v) k refl p f (rw m) e
  reads (flag true) k p f e = reads_number 1 bool (flag true) k refl (omega arith) (omega arith) refl e
  reads (flag false) k p f e = absurd (false≢true p)
  reads (octets bs) k p f e = reads_span bs (octets bs) k refl p (omega arith) refl e
  reads (numbers ns) k p f e =
      reads_span (flat_map varint ns) (numbers ns) k refl (packed_some ns p f.0) (omega (arith, packed_length ns)) (packed_back ns f.0) e

of_group_ahead : (n at p : ℕ) (g : Option ℕ) → at < p → GroupAhead n p g → FieldAhead at (of_group g)
of_group_ahead n at p (Some next) l h = omega arith
of_group_ahead n at p None l h = tt

field_of_ahead : (schema : Schema) (s : List ℕ) (at : ℕ) (f : Option ProtoField) → ProtoAhead (length s) at f → FieldAhead at (field_of schema s f)
field_of_ahead schema s at (Some (Number n v next)) h =
    either (FieldAhead at) (is_of_wire 0 (kind_at schema n)) (λ _. listed_ahead schema at n (of_varint v) next h.behind) (λ _. h.behind)
field_of_ahead schema s at (Some (Span n start len next)) h =
    either (FieldAhead at) (is_of_wire 2 (kind_at schema n)) (λ _. listed_ahead schema at n (of_span (take len (drop start s))) next h.0.behind) (λ _. h.0.behind)
field_of_ahead schema s at (Some (Fixed n next)) h = h.behind
field_of_ahead schema s at (Some (GroupStart n next)) h = of_group_ahead (length s) at next (group_at depth_most s n next) h.behind (group_ahead s depth_most n next)
field_of_ahead schema s at (Some (GroupEnd n next)) h = tt
field_of_ahead schema s at None h = tt

pub protobuf_lawful : Lawful protobuf
protobuf_lawful = record {
  leaves_out = leaves_out;
  reads = λ schema s at n value rest some' few k p f e. reads schema s at n rest some' few value k p f e;
  ahead = λ schema s at. field_of_ahead schema s at (proto.field_at s at) (field_ahead s at);
  ascends = λ last n h. refl;
}
