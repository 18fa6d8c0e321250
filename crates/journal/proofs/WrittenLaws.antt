-- A record written part by part: what stands before the name, the name and the data, and the CRC over all of it.
use mathlib.Core.Path.{◌≡◌, sym, ap, ◌∙◌}
use mathlib.Core.Bool.{Bool}
use mathlib.Core.List.{List, [], ◌++◌, append-nil}
use Prim.Native.Nat.{ℕ, ◌+◌, ◌-◌, ◌≤◌}
use native.Mathlib.Omega.{arith}
use borrow.Rule.Slice.PartMut.{put_mid}
use lib.ListN.{length, take, drop, length-append, length-take, length-drop, drop_of_length-le}
use lib.Seq.{take_at}
use Rattle.wire.specs.Lists.{put, over}
use Rattle.wire.specs.Numbers.{little_endian_of}
use Rattle.wire.specs.code.Wrote.{Wrote}
use Rattle.wire.proofs.NumberLaws.{length_number}
use Rattle.wire.proofs.BufferLaws.{put_on, put_part}
use Rattle.registry.specs.code.Check.{key_from}
use Rattle.registry.specs.declared.Line.{Line}
use Rattle.crc.specs.Crc.{crc32}
use Rattle.journal.specs.Record.{Act, importing, destroying, value_of, tag_of, covered, record_of}
use Rattle.journal.specs.code.Written.{import_head, destroy_head}

-- what the CRC covers
abbrev pub front : Act → List ℕ
front act = covered (tag_of act) (value_of act)

pub import_front : (line : Line) (name bytes : List ℕ) (bits : ℕ) (e v : Bool)
    → import_head line (length name) (length bytes) bits e v ++ (name ++ bytes) ≡ front (importing line (key_from name bytes bits e v))
unfolding import_head tag_of covered value_of little_endian_of
import_front line name bytes bits e v =
    let n : 6 + (length name + length bytes) ≡ length (value_of (importing line (key_from name bytes bits e v))) = omega (arith, length-append name bytes) in
    rw n

pub destroy_front : (line : Line) (name : List ℕ) → destroy_head line (length name) ++ name ≡ front (destroying line name)
unfolding destroy_head tag_of covered value_of little_endian_of
destroy_front line name =
    let n : 1 + length name ≡ length (value_of (destroying line name)) = omega arith in
    rw n

-- what the CRC covers was written, and the CRC behind it
pub sealed : (act : Act) {d e e' : List ℕ} {n r : ℕ} → Wrote (front act) d e n
    → (r ≡ n + 4) × (e' ≡ put e n (little_endian_of 4 (crc32 (take n e)))) → Wrote (record_of act) d e' r
unfolding record_of
sealed act {d} {e} {e'} {n} {r} w s =
    let f : List ℕ = front act in
    let sum : List ℕ = little_endian_of 4 (crc32 f) in
    let back : take n e ≡ f = ap (take n) w.bytes ∙ take_at f (drop (length f) d) n (sym w.count) in
    record {
      count = omega (arith, s.0, w.count, length-append f sum, length_number 4 (crc32 f));
      bytes = s.1 ∙ ap (λ (l : List ℕ). put e n (little_endian_of 4 (crc32 l))) back ∙ put_on f sum d e n w.count w.bytes;
    }

-- the CRC's four bytes, copied over a part that is lent for them
pub put_sum : (b v m : List ℕ) (n sum : ℕ) → n + 4 ≤ length b → v ≡ little_endian_of 4 sum → m ≡ over v (take (n + 4 - n) (drop n b))
    → put_mid n (n + 4 - n) b m ≡ put b n (little_endian_of 4 sum)
put_sum b v m n sum h e q =
    let four : length v ≡ 4 = ap length e ∙ length_number 4 sum in
    let lent : length (take (n + 4 - n) (drop n b)) ≤ length v = simp (length-take, length-drop) (omega arith) in
    let none : drop (length v) (take (n + 4 - n) (drop n b)) ≡ [] = drop_of_length-le (take (n + 4 - n) (drop n b)) lent in
    let all : m ≡ v = q ∙ ap (λ (l : List ℕ). v ++ l) none ∙ append-nil v in
    ap (put_mid n (n + 4 - n) b) all ∙ put_part b v n 4 four ∙ ap (put b n) e
