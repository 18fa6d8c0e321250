use Prim.Native.Nat.{◌≤◌}
use native.Mathlib.Omega.{arith}
use Rattle.judgement.specs.Status.{status_number}
use Rattle.judgement.specs.code.Decided.{output_most}
use Rattle.answer.proofs.WrittenLaws.{response_on, output_short}
use Rattle.answer.proofs.response.write_response.Goals as goal
use Rattle.answer.proofs.response.write_response.Goals.{After-write_output-size}

short : (c : After-write_output-size) → c.write_output-size.result ≤ output_most
short c =
    omega (arith, c.write_output-size.ensures.count, output_short c.format_for-format.result c.args.registry.now c.args.list.now c.requires.0 c.args.line c.requires.1 c.args.output c.requires.2)

pub overflow_cast-size : goal.overflow_cast-size
overflow_cast-size c =
    let w = (goal.at.overflow_cast-size c).After-write_output-size in
    omega (arith, short w)

pub overflow_add-result : goal.overflow_add-result
overflow_add-result c =
    let w = (goal.at.overflow_add-result c).After-write_output-size in
    omega (arith, short w, c.copy_into-k.ensures.count)

pub returns : goal.returns
returns c =
    let a = c.args in
    let f = c.format_for-format.ensures in
    rw (← f)
    (response_on a.h.provider a.h.session _ a.h.opcode (status_number a.status) a.out.now c.write_output-size.ensures (omega (arith, c.requires.3))
    (rw (← c.write_output-size.ensures.count, ← c.status_number.ensures, ← c.content_type_of.ensures, ← c.response_header-head.ensures) c.copy_into-k.ensures))
