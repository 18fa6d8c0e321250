use mathlib.Core.Path.{sym, ap, ◌∙◌}
use Prim.Native.Nat.{ℕ}
use borrow.Author.Tests.{eq-eqb, ne_eqb}
use lib.ListN.{replicate}
use Rattle.client_responses.specs.Reading.{Asked}
use Rattle.client_responses.specs.State.{begin_state}
use Rattle.client_responses.proofs.StateLaws.{begun_put}
use Rattle.client_responses.proofs.state.begin.Goals as goal

pub returns-then-memory-ne-STATE_SIZE : goal.returns-then-memory-ne-STATE_SIZE
unfolding begin_state
returns-then-memory-ne-STATE_SIZE c = rw (ne_eqb _ _ c.if-memory-ne-STATE_SIZE.true, begin_state)

pub returns-then-not-is_listed : goal.returns-then-not-is_listed
unfolding begin_state
returns-then-not-is_listed c = rw (eq-eqb _ _ c.if-memory-ne-STATE_SIZE.false, sym c.is_listed.ensures ∙ c.if-not-is_listed.true, begin_state)

pub returns-then-not-is_content_type : goal.returns-then-not-is_content_type
unfolding begin_state
returns-then-not-is_content_type c =
    rw (eq-eqb _ _ c.if-memory-ne-STATE_SIZE.false, sym c.is_listed.ensures ∙ c.if-not-is_listed.false, sym c.is_content_type.ensures ∙ c.if-not-is_content_type.true, begin_state)

pub returns : goal.returns
unfolding begin_state
returns c =
    let a = c.args in
    let asked : Asked = a.asked in
    let size = c.if-memory-ne-STATE_SIZE.false in
    let put = begun_put asked _ _ _ _ _ c.bytes_of_u16-first.ensures c.bytes_of_u64-second.ensures (c.clear.ensures ∙ ap (λ (n : ℕ). replicate n 0) size) c.copy_into.ensures.bytes c.copy_into-2.ensures.bytes in
    rw (eq-eqb _ _ size, sym c.is_listed.ensures ∙ c.if-not-is_listed.false, sym c.is_content_type.ensures ∙ c.if-not-is_content_type.false, begin_state, put)
