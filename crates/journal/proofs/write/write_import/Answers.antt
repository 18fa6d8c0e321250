use native.Mathlib.Omega.{arith}
use lib.ListN.{length-append}
use Rattle.wire.proofs.BufferLaws.{wrote_on}
use Rattle.registry.specs.code.Check.{key_from}
use Rattle.journal.specs.Record.{importing}
use Rattle.journal.proofs.WrittenLaws.{import_front, sealed}
use Rattle.journal.proofs.write.write_import.Goals as goal

pub overflow_add-k : goal.overflow_add-k
overflow_add-k c = omega (arith, c.copy_into-k.ensures.count, simp length-append at c.copy_both-m.ensures.count)

pub seal-requires : goal.seal-requires
seal-requires c = omega (arith, c.copy_into-k.ensures.count, simp length-append at c.copy_both-m.ensures.count)

pub returns : goal.returns
returns c =
    let a = c.args in
    let w = wrote_on (rw c.import_head-head.ensures at c.copy_into-k.ensures) c.copy_both-m.ensures in
    sealed (importing a.line (key_from a.name.now a.bytes.now a.bits a.exported a.verified))
    (rw import_front at w) c.seal.ensures
