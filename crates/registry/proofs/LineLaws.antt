-- Laws of a line's bytes: the name that is read there, and a line that is written.
use mathlib.Core.Path.{◌≡◌, ap, ◌∙◌}
use mathlib.Core.List.{List, [], ◌∷◌, ◌++◌, append_assoc, append-nil}
use Prim.Native.Nat.{ℕ, ◌+◌, ◌-◌, ◌*◌, ◌≤◌, ◌<◌}
use native.Mathlib.Omega.{arith}
use borrow.Rule.Slice.PartMut.{put_mid}
use lib.ListN.{length, take, drop, get_or, set, replicate, length-map, get_or-map, drop_of_length-le, replicate-append-replicate}
use Rattle.wire.specs.Lists.{padded}
use Rattle.wire.proofs.ListLaws.{length_padded}
use Rattle.wire.proofs.BufferLaws.{lent}
use Rattle.wire.proofs.BlockLaws.{block_at_lem, length_blocks}
use Rattle.keys.specs.Names.{application_name_most}
use Rattle.registry.specs.Names.{name_in}
use Rattle.registry.specs.Slots.{slot_size}
use Rattle.registry.specs.Registry.{line_count, slot_count, line_size, lines_in, names_in, line_of}

pub length_names : (registry : List ℕ) → length (names_in registry) ≡ line_count
length_names registry = length-map (lines_in registry) name_in ∙ length_blocks line_size line_count registry

pub name_there : (registry : List ℕ) (l : ℕ) → l < line_count → get_or (names_in registry) l [] ≡ name_in (take line_size (drop (l * line_size) registry))
name_there registry l h = get_or-map name_in (lines_in registry) l [] ∙ ap name_in (block_at_lem line_size line_count registry l h)

-- zeros behind the name, up to the line's end
line_padded : (name : List ℕ) → length name ≤ application_name_most → line_of name ≡ length name ∷ padded (line_size - 1) name
unfolding line_of
line_padded name h =
    let n : ℕ = application_name_most - length name in
    let e : n + slot_count * slot_size ≡ line_size - 1 - length name = omega arith in
    ap (λ (r : List ℕ). length name ∷ r)
    (append_assoc name (replicate n 0) (replicate (slot_count * slot_size) 0)
    ∙ ap (λ (r : List ℕ). name ++ r) (replicate-append-replicate n (slot_count * slot_size) 0 ∙ ap (λ (k : ℕ). replicate k 0) e))

pub line_long : (name : List ℕ) → length name ≤ application_name_most → length (line_of name) ≡ line_size
line_long name h =
    let fits : length name ≤ line_size - 1 = omega arith in
    omega (arith, ap length (line_padded name h), length_padded (line_size - 1) name fits)

-- the length of the name at a line's front, and the name and zeros over the part behind it
pub line_written : (l m name : List ℕ) (x : ℕ) → length l ≡ line_size → length name ≤ application_name_most → x ≡ length name
    → m ≡ padded (length (take (length (set l 0 x) - 1) (drop 1 (set l 0 x)))) name → put_mid 1 (length (set l 0 x) - 1) (set l 0 x) m ≡ line_of name
line_written [] m name x long short e q = absurd (omega arith)
line_written (y ∷ l) m name x long short e q =
    let size : length l ≡ line_size - 1 = omega arith in
    let none : drop (length (x ∷ l) - 1) l ≡ [] = drop_of_length-le l (let h : length l ≤ length (x ∷ l) - 1 = omega arith in h) in
    rw (none, append-nil, q, lent 1 (x ∷ l), size, e, line_padded name short)
