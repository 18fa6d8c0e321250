use native.Mathlib.Omega.{arith}
use Rattle.client_requests.proofs.WritingLaws.{around_on}
use Rattle.client_requests.proofs.write.write_around.Goals as goal

pub returns : goal.returns
returns c =
    around_on _ c.args.client.types _ _ _ _ c.args.out.now (omega arith)
    (rw (← c.auth_type.ensures, ← c.auth_bytes-auth.ensures, ← c.request_header-head.ensures) c.copy_into-start.ensures)
    (rw c.auth_bytes-auth.ensures at c.copy_into.ensures)
