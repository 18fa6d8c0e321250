-- A response written: the header and then the body; and how long exported data can be.
use Prim.Native.Nat.{ℕ, ◌+◌, ◌-◌, ◌≤◌, ◌<◌}
use mathlib.Core.Path.{◌≡◌, refl, sym, ap, ◌∙◌}
use mathlib.Core.Bool.{true}
use mathlib.Core.List.{List, [], ◌∷◌, ◌++◌, append_assoc, append-nil}
use native.Mathlib.Omega.{arith}
use borrow.Author.Tests.{eq-eqb, ne_eqb}
use borrow.Rule.Slice.PartMut.{put_mid}
use lib.ListN.{length, take, drop, get_or, length-append, length-drop, drop_of_length-le}
use lib.Seq.{drop_at, drop-drop, length-take-le}
use Rattle.wire.specs.Numbers.{little_endian_of}
use Rattle.wire.specs.Response.{response_header, response_bytes}
use Rattle.wire.specs.code.Wrote.{Wrote}
use Rattle.wire.specs.Lists.{over}
use Rattle.wire.proofs.BufferLaws.{lent}
use Rattle.keys.specs.Key.{data_most}
use Rattle.messages.specs.Message.{numbers}
use Rattle.messages.specs.Format.{Format, message_bytes}
use Rattle.messages.specs.Formats.{format_of}
use Rattle.messages.specs.declared.format.BodyFormat.{BodyFormat}
use Rattle.messages.specs.Opcodes.{core_opcodes, keystore_opcodes, opcodes_of}
use Rattle.messages.specs.Operations as message
use Rattle.messages.proofs.FormatsLaws.{nothing_bytes, version_short, providers_short, opcodes_short, offset_short, exported_short}
use Rattle.registry.specs.Slots.{Entry, free, held}
use Rattle.registry.specs.Registry.{line_count, slots_of}
use Rattle.registry.specs.WellFormed.{well_formed_registry}
use Rattle.registry.specs.code.Check.{bytes_in}
use Rattle.registry.specs.declared.Line.{Line}
use Rattle.registry.proofs.SlotLaws.{ShortEntry}
use Rattle.registry.proofs.WellFormedLaws.{slots_short}
use Rattle.lookup.specs.code.Places.{key_at}
use Rattle.lookup.specs.declared.Place.{Place}
use Rattle.lookup.specs.declared.Place.TheVariants.{Own, Listed, Nothing as Nowhere}
use Rattle.judgement.specs.code.Decided.{bytes_at, output_in, output_bytes, output_most, SafeOutput}
use Rattle.judgement.specs.declared.Output.{Output}
use Rattle.judgement.specs.declared.Output.TheVariants.{Nothing, Version, Providers, Opcodes, Data, Offset}
use Rattle.judgement.proofs.SourceLaws.{bytes_at_lem}

pub header_length_lem : (provider session type size opcode status : ℕ) → length (response_header provider session type size opcode status) ≡ 26
unfolding response_header little_endian_of
header_length_lem provider session type size opcode status = refl

-- b was written over the part of d that starts at k, lent on as `&mut d[k..]`, and then a over the front
before : (a b d m : List ℕ) (k : ℕ) → length a ≡ k → k ≤ length d → m ≡ over b (take (length d - k) (drop k d))
    → over a (put_mid k (length d - k) d m) ≡ over (a ++ b) d
before a b d m k e h q =
    let n : length (drop k d) ≤ length d - k = omega (arith, length-drop k d) in
    let z : drop (length d - k) (drop k d) ≡ [] = drop_of_length-le (drop k d) n in
    let f : length (take k d) ≡ length a = length-take-le k d h ∙ sym e in
    rw (z, append-nil, drop_at (take k d) m (length a) f, q, lent, drop-drop, append_assoc, length-append, e)

-- the body was written behind the header's place, and then the header
pub response_on : (provider session type opcode status : ℕ) (d : List ℕ) {body l m : List ℕ} {k r : ℕ}
    → Wrote body (take (length d - 26) (drop 26 d)) m r → 26 ≤ length d
    → Wrote (response_header provider session type (length body) opcode status) (put_mid 26 (length d - 26) d m) l k
    → Wrote (response_bytes provider session type opcode status body) d l (k + r)
unfolding response_bytes
response_on provider session type opcode status d {body} {l} {m} y h x =
    let head : List ℕ = response_header provider session type (length body) opcode status in
    let n : length head ≡ 26 = header_length_lem provider session type (length body) opcode status in
    record {
      count = omega (arith, x.count, y.count, length-append head body);
      bytes = x.bytes ∙ before head body d m 26 n h y.bytes;
    }

-- the data of a key is short, wherever it lies
pub data_short : (r list : List ℕ) → well_formed_registry r ≡ true → (line : Line) → line.0 < line_count → (place : Place) → SafeOutput list (Data place)
    → length (key_at r list line place).bytes ≤ data_most
unfolding bytes_in bytes_at
data_short r list w line h place safe = rw (bytes_at_lem r list line place) (go place safe)
  where
    by_entry : (e : Entry) → ShortEntry e → length (bytes_in e) ≤ data_most
    by_entry free s = omega arith
    by_entry (held key) s = s

    go : (p : Place) → SafeOutput list (Data p) → length (bytes_at (slots_of r line) list p) ≤ data_most
    go (Own slot) s = by_entry (get_or (slots_of r line) slot.0 free) (slots_short r w line h slot.0)
    go (Listed span) s = s.1
    go Nowhere s = omega arith

-- every body is short
pub output_short : (f : BodyFormat) (registry list : List ℕ) → well_formed_registry registry ≡ true → (line : Line) → line.0 < line_count → (output : Output) → SafeOutput list output
    → length (output_bytes (format_of f) (slots_of registry line) list output) ≤ output_most
unfolding output_in
output_short f r list w line h Nothing safe = omega (arith, ap length (nothing_bytes f))
output_short f r list w line h Version safe = omega (arith, version_short f 1 0)
output_short f r list w line h Providers safe = omega (arith, providers_short f)
output_short f r list w line h (Opcodes provider) safe = omega (arith, opcodes_short f provider)
output_short f r list w line h (Offset at) safe = omega (arith, offset_short f at)
output_short f r list w line h (Data place) safe =
    omega (arith, exported_short f (bytes_at (slots_of r line) list place) (rw (bytes_at_lem r list line place) at (data_short r list w line h place safe)))

-- ---- the bodies of the lists

module _ (format : Format) (slots : List Entry) (list : List ℕ) (provider : ℕ) where
  pub core_body : provider ≡ 0 → output_bytes format slots list (Opcodes provider) ≡ message_bytes format (numbers core_opcodes ∷ [])
  unfolding output_in message.output_bytes opcodes_of
  core_body e = rw (eq-eqb provider 0 e)

  pub keystore_body : (provider ≡ 0 → ⊥) → output_bytes format slots list (Opcodes provider) ≡ message_bytes format (numbers keystore_opcodes ∷ [])
  unfolding output_in message.output_bytes opcodes_of
  keystore_body e = rw (ne_eqb provider 0 e)
