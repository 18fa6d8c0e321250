use native.Mathlib.Omega.{arith}
use lib.ListN.{length-append}
use Rattle.journal.specs.Record.{destroying}
use Rattle.journal.proofs.WrittenLaws.{destroy_front, sealed}
use Rattle.journal.proofs.write.write_destroy.Goals as goal

pub seal-requires : goal.seal-requires
seal-requires c = omega (arith, simp length-append at c.copy_both-k.ensures.count)

pub returns : goal.returns
returns c =
    let a = c.args in
    let w = rw (c.destroy_head-head.ensures, destroy_front) at c.copy_both-k.ensures in
    sealed (destroying a.line a.name.now) w c.seal.ensures
