use Prim.Native.Nat.{ℕ, ◌-◌}
use mathlib.Core.Path.{◌≡◌, sym, ap₂, subst, ◌∙◌}
use mathlib.Core.List.{List}
use native.Mathlib.Omega.{arith}
use lib.ListN.{length}
use Rattle.client_responses.specs.State.{asked_in, bytes_in}
use Rattle.client_responses.specs.code.Looked.{Run}
use Rattle.client_responses.proofs.StateLaws.{well}
use Rattle.client_responses.proofs.FoundLaws.{run_wanted, run_first}
use Rattle.client_responses.proofs.read.run.Goals as goal
use Rattle.client_responses.proofs.read.run.Goals.{After-read_u16-held}

abbrev memory : After-read_u16-held → List ℕ
memory c = c.args.memory.now

-- so many bytes are held
held : (c : After-read_u16-held) → length (bytes_in (memory c)) ≡ c.read_u16-held.result
held c = (well (memory c) c.requires.well).long ∙ sym c.read_u16-held.ensures

pub read_u16-held-requires : goal.read_u16-held-requires
read_u16-held-requires c = let w = well _ c.requires.well in let s = w.size in omega arith

pub first_run-requires : goal.first_run-requires
first_run-requires c =
    let w = (goal.at.first_run-requires c).After-read_u16-held in
    (well (memory w) c.requires.well).size

pub returns-then-held-eq0 : goal.returns-then-held-eq0
returns-then-held-eq0 c =
    let w = (goal.at.returns-then-held-eq0 c).After-read_u16-held in
    run_first _ (bytes_in (memory w)) _ _ (held w ∙ c.if-held-eq0.true) c.first_run.ensures

pub returns : goal.returns
returns c =
    let w = (goal.at.returns c).After-read_u16-held in
    let m : List ℕ = memory w in
    subst (Run (asked_in m) (bytes_in m) c.args.rest.now) (sym (ap₂ ◌-◌ c.wanted.ensures.0 (sym (held w)))) (run_wanted (asked_in m) (bytes_in m) c.args.rest.now c.requires.begun)
