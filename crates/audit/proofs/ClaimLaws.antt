-- The claims of the verdict itself.
use mathlib.Core.Path.{◌≡◌, refl, sym, ap, ◌∙◌}
use Prim.Native.Nat.{ℕ}
use mathlib.Core.List.{List, [], ◌∷◌, ◌++◌, flatten}
use Rattle.reading.specs.Calls.{taken_stream}
use Rattle.stream.specs.Rules.{rules}
use Rattle.stream.specs.Handed.{joined_responses}
use Rattle.judgement.specs.Judgement.{judgement}
use Rattle.service.specs.Claims.{answers_in}
use Rattle.service.proofs.CodeDemand3.{code_demand3}
use Rattle.audit.specs.Audit.{audit}
use Rattle.audit.specs.Claims.{AcceptedExactly, AcceptedAlone, WrittenAccepted}
use Rattle.audit.specs.declared.Verdict.TheVariants.{Accepted}
use Rattle.audit.proofs.VerdictLaws.{accepted_right, accepted_only, changed, not_longer}

module _ (list registry requests : List ℕ) where
  abbrev right : List ℕ
  right = flatten (rules (judgement list) registry requests).responses

  only : (captured : List ℕ) → audit list registry requests captured ≡ Accepted → captured ≡ right
  unfolding audit
  only captured e = accepted_only (rules (judgement list) registry requests).responses 1 captured e

  accepts : (captured : List ℕ) → captured ≡ right → audit list registry requests captured ≡ Accepted
  unfolding audit
  accepts captured e = ap (audit list registry requests) e ∙ accepted_right (rules (judgement list) registry requests).responses 1

  accepted_alone : (responses : List ℕ) → responses ≡ right → AcceptedAlone list registry requests responses
  accepted_alone responses e = record {
    accepted = accepts responses e;
    changed = λ before after byte other r d h. d (changed before after byte other (sym r ∙ e ∙ sym (only _ h)));
    lost = λ before after byte r h. not_longer before after byte (only _ h ∙ sym e ∙ r);
    added = λ before after byte r h. not_longer before after byte (sym r ∙ e ∙ sym (only _ h));
  }

pub accepted_exactly : AcceptedExactly
accepted_exactly list registry requests captured = (only list registry requests captured, accepts list registry requests captured)

pub written_accepted : WrittenAccepted
written_accepted list registry calls runs r =
    accepted_alone list registry (taken_stream calls (answers_in runs)) (joined_responses (answers_in runs)) ((code_demand3 list registry).follows calls runs r).responses
