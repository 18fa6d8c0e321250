use mathlib.Core.Path.{sym, ◌∙◌}
use mathlib.Core.List.{List}
use Prim.Native.Nat.{ℕ}
use borrow.Author.Rules.{rules}
use Rattle.wire.proofs.NumberLaws.{all_bytes}
use Rattle.client_responses.proofs.StateLaws.{well, memory_is}
use Rattle.client_responses.proofs.ReadLaws.{none_awaited, some_told, told_waiting, outcome_refused, outcome_past}
use Rattle.client_responses.proofs.read.read.Goals as goal

pub returns-then-not-is_well_formed : goal.returns-then-not-is_well_formed
returns-then-not-is_well_formed c =
    (sym (outcome_refused c.args.memory.now c.args.chunk.now (sym c.is_well_formed.ensures ∙ c.if-not-is_well_formed.true)), tt)

pub take_on-requires : goal.take_on-requires
take_on-requires c =
    let m : List ℕ = c.args.memory.now in
    let good = sym c.is_well_formed.ensures ∙ c.if-not-is_well_formed.false in
    record {
      well = good;
      memory_is = memory_is m (well m good) (all_bytes m (search rules));
      begun = told_waiting c.look-looked.ensures (none_awaited _ (sym c.is_waiting.ensures ∙ c.if-is_waiting.true));
    }

pub returns : goal.returns
returns c =
    let m : List ℕ = c.args.memory.now in
    let good = sym c.is_well_formed.ensures ∙ c.if-not-is_well_formed.false in
    rw c.answer.ensures (
      outcome_past m c.args.chunk.now (well m good) good (all_bytes m (search rules)) c.look-looked.result c.look-looked.ensures (some_told _ (sym c.is_waiting.ensures ∙ c.if-is_waiting.false)),
      c.look-looked.ensures.within,
    )
