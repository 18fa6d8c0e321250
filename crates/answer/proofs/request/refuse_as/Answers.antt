use mathlib.Core.Path.{refl}
use Rattle.answer.proofs.request.refuse_as.Goals as goal

pub returns : goal.returns
returns c = (refl, refl, c.write_refused-written.ensures, refl)
