use mathlib.Core.Path.{refl, sym, ap, ◌∙◌}
use mathlib.Core.List.{List}
use Prim.Native.Nat.{ℕ}
use lib.ListN.{take}
use lib.Seq.{length-take-le}
use Rattle.wire.specs.Numbers.{little_endian_of}
use Rattle.crc.specs.Crc.{crc32}
use Rattle.journal.proofs.WrittenLaws.{put_sum}
use borrow.Author.Rules.{rules}
use Rattle.journal.proofs.write.seal.Goals as goal

pub slice_bounds-crc32_of-end-2 : goal.slice_bounds-crc32_of-end-2
slice_bounds-crc32_of-end-2 c = sym (length-take-le c.args.n c.args.out.now (search rules))

pub returns : goal.returns
returns c =
    let out : List ℕ = c.args.out.now in
    let n : ℕ = c.args.n in
    let sum = c.bytes_of_u32-sum.ensures ∙ ap (little_endian_of 4) c.crc32_of.ensures in
    (refl, put_sum out _ _ n (crc32 (take n out)) c.requires sum c.copy_into.ensures.bytes)
