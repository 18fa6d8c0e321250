use mathlib.Core.Path.{sym, ap, ap₂, ◌∙◌}
use mathlib.Core.List.{List}
use Prim.Native.Nat.{ℕ}
use Rattle.std.proofs.Common.{Result}
use lib.ListN.{replicate}
use Rattle.journal.specs.declared.Fault.{Fault}
use Rattle.journal.specs.declared.Progress.{Progress}
use Rattle.journal.specs.Compact.{Compact, between}
use Rattle.journal.specs.code.Done.{compact_with}
use Rattle.journal.proofs.StepLaws.{ended_by, record_ended}
use Rattle.journal.proofs.read.end_record.Goals as goal

pub returns-in-Ok : goal.returns-in-Ok
returns-in-Ok c =
    let s : Compact = compact_with c.args.registry.now c.args.p c.args.front.now in
    let registry : List ℕ = c.judge-judged.new.registry in
    ap₂ (λ (p : Progress) (front : List ℕ). compact_with registry p front) c.between.ensures (c.clear.ensures ∙ ap (λ (n : ℕ). replicate n 0) c.requires.0)
    ∙ ap (λ (t : Result (Unit {0}) Fault). ended_by s t registry) (sym c.in-Ok.is)
    ∙ record_ended s _ (record { judged = c.judge-judged.result; registry = registry }) c.judge-judged.ensures

pub returns-in-Err : goal.returns-in-Err
returns-in-Err c =
    let s : Compact = compact_with c.args.registry.now c.args.p c.args.front.now in
    let registry : List ℕ = c.judge-judged.new.registry in
    ap₂ (λ (p : Progress) (front : List ℕ). compact_with registry p front) c.between-in-Err.ensures (c.clear.ensures ∙ ap (λ (n : ℕ). replicate n 0) c.requires.0)
    ∙ ap (λ (n : ℕ). between registry n c.args.p.kept) c.from.ensures
    ∙ ap (λ (t : Result (Unit {0}) Fault). ended_by s t registry) (sym c.in-Err.is)
    ∙ record_ended s _ (record { judged = c.judge-judged.result; registry = registry }) c.judge-judged.ensures
