use mathlib.Core.Path.{◌≡◌, sym, ap, subst, ◌∙◌}
use mathlib.Core.Bool.{true}
use mathlib.Core.List.{List}
use Prim.Native.Nat.{ℕ, ◌+◌, ◌≤◌}
use native.Mathlib.Omega.{arith}
use lib.ListN.{length}
use Rattle.registry.specs.WellFormed.{well_formed_registry}
use Rattle.registry.proofs.WellFormedLaws.{good_of}
use Rattle.journal.specs.declared.Progress.{Progress}
use Rattle.journal.specs.declared.read.ReadAnswer.{ReadAnswer}
use Rattle.journal.specs.Compact.{front_most, file_most}
use Rattle.journal.specs.Memory.{well_formed_state}
use Rattle.journal.specs.code.Done.{progress_in}
use Rattle.journal.proofs.StateLaws.{Told, told, front_long, stored_long}
use Rattle.journal.proofs.OutcomeLaws.{outcome_registry, outcome_state, outcome_read}
use borrow.Author.Rules.{rules}
use Rattle.journal.proofs.read.read_journal.Goals as goal
use Rattle.journal.proofs.read.read_journal.Goals.{Else-not-is_well_formed, Else-not-is_well_formed-2}

good : (c : Else-not-is_well_formed) → well_formed_registry c.args.registry.now ≡ true
good c = sym c.is_well_formed.ensures ∙ c.if-not-is_well_formed.false

well : (c : Else-not-is_well_formed-2) → well_formed_state c.args.state.now ≡ true
well c = sym c.is_well_formed-2.ensures ∙ c.if-not-is_well_formed-2.false

known : (c : Else-not-is_well_formed-2) → Told c.args.state.now
known c = told _ (well c)

pub returns-then-not-is_well_formed : goal.returns-then-not-is_well_formed
returns-then-not-is_well_formed c =
    ap (λ (a : ReadAnswer). record { said = a.said; taken = a.taken; kept = a.kept; state = c.args.state.now; registry = c.args.registry.now }) c.refused.ensures
    ∙ outcome_registry c.args.registry.now c.args.state.now c.args.chunk.now (sym c.is_well_formed.ensures ∙ c.if-not-is_well_formed.true)

pub returns-then-not-is_well_formed-2 : goal.returns-then-not-is_well_formed-2
returns-then-not-is_well_formed-2 c =
    let w = (goal.at.returns-then-not-is_well_formed-2 c).Else-not-is_well_formed in
    ap (λ (a : ReadAnswer). record { said = a.said; taken = a.taken; kept = a.kept; state = c.args.state.now; registry = c.args.registry.now }) c.refused-then-not-is_well_formed-2.ensures
    ∙ outcome_state c.args.registry.now c.args.state.now c.args.chunk.now (good w) (sym c.is_well_formed-2.ensures ∙ c.if-not-is_well_formed-2.true)

pub load-start-requires : goal.load-start-requires
load-start-requires c = (known c).size

pub slice_bounds-read_on-count : goal.slice_bounds-read_on-count
slice_bounds-read_on-count c =
    let w = (goal.at.slice_bounds-read_on-count c).Else-not-is_well_formed-2 in
    let size = (known w).size in omega arith

pub slice_bounds-read_on-start : goal.slice_bounds-read_on-start
slice_bounds-read_on-start c =
    let w = (goal.at.slice_bounds-read_on-start c).Else-not-is_well_formed-2 in
    let size = (known w).size in search rules

pub read_on-reached-requires : goal.read_on-reached-requires
read_on-reached-requires c =
    let w = (goal.at.read_on-reached-requires c).Else-not-is_well_formed in
    let w' = (goal.at.read_on-reached-requires c).Else-not-is_well_formed-2 in
    let k = known w' in
    let l = c.load-start.ensures in
    (front_long c.args.state.now k.size, (good_of c.args.registry.now (good w)).size, subst (λ (p : Progress). p.kept + p.count ≤ file_most) (sym l) (unfold progress_in in k.within))

pub store-requires : goal.store-requires
store-requires c =
    let w = (goal.at.store-requires c).Else-not-is_well_formed-2 in
    let m : List ℕ = c.args.state.now in
    let size = (known w).size in
    let long : length c.read_on-reached.new.front ≡ front_most = c.read_on-reached.auto.front ∙ front_long m size in
    stored_long m size c.read_on-reached.new.front long

pub returns : goal.returns
returns c =
    let w = (goal.at.returns c).Else-not-is_well_formed in
    let w' = (goal.at.returns c).Else-not-is_well_formed-2 in
    let m : List ℕ = c.args.state.now in
    let size = (known w').size in
    outcome_read c.args.registry.now m c.args.chunk.now (good w) (well w') _ c.load-start.ensures c.read_on-reached.result.progress _ _ _ _ _ size
    (c.read_on-reached.auto.front ∙ front_long m size) c.read_on-reached.ensures.0 c.read_on-reached.ensures.1 c.store.ensures c.say.ensures
