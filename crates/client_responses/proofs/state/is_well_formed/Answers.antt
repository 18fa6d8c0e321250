use mathlib.Core.Path.{◌≡◌, sym, ap, ◌∙◌}
use mathlib.Core.Bool.{true}
use native.Mathlib.Omega.{arith}
use Prim.Native.Nat.{◌+◌, ◌≤◌, ◌<◌}
use Rattle.wire.specs.Lists.{all, is_zero}
use Rattle.wire.specs.Numbers.{field}
use Rattle.wire.proofs.BufferLaws.{lent}
use Rattle.client_responses.specs.State.{response_most, accept_at, count_at, bytes_at}
use Rattle.client_responses.proofs.StateLaws.{is_listed, is_type, other_size, unlisted, other_type, too_many, zeros_decide}
use Rattle.client_responses.proofs.state.is_well_formed.Goals as goal
use Rattle.client_responses.proofs.state.is_well_formed.Goals.{Else-not-is_content_type, Else-not-is_listed}

listed : (c : Else-not-is_listed) → is_listed (field 0 2 c.args.memory.now) ≡ true
listed c = ap is_listed (sym c.read_u16.ensures) ∙ sym c.is_listed.ensures ∙ c.if-not-is_listed.false

typed : (c : Else-not-is_content_type) → is_type (field accept_at 1 c.args.memory.now) ≡ true
typed c = ap is_type (sym c.accept_type_of.ensures) ∙ sym c.is_content_type.ensures ∙ c.if-not-is_content_type.false

pub returns-then-memory-ne-STATE_SIZE : goal.returns-then-memory-ne-STATE_SIZE
returns-then-memory-ne-STATE_SIZE c = sym (other_size _ c.if-memory-ne-STATE_SIZE.true)

pub returns-then-not-is_listed : goal.returns-then-not-is_listed
returns-then-not-is_listed c = sym (unlisted _ c.if-memory-ne-STATE_SIZE.false (ap is_listed (sym c.read_u16.ensures) ∙ sym c.is_listed.ensures ∙ c.if-not-is_listed.true))

pub returns-then-not-is_content_type : goal.returns-then-not-is_content_type
returns-then-not-is_content_type c =
    let w = (goal.at.returns-then-not-is_content_type c).Else-not-is_listed in
    sym (other_type _ c.if-memory-ne-STATE_SIZE.false (listed w) (ap is_type (sym c.accept_type_of.ensures) ∙ sym c.is_content_type.ensures ∙ c.if-not-is_content_type.true))

pub returns-then-count-gt-RESPONSE_MOST : goal.returns-then-count-gt-RESPONSE_MOST
returns-then-count-gt-RESPONSE_MOST c =
    let w = (goal.at.returns-then-count-gt-RESPONSE_MOST c).Else-not-is_listed in
    let w' = (goal.at.returns-then-count-gt-RESPONSE_MOST c).Else-not-is_content_type in
    let e = c.read_u16-count.ensures in
    let m = c.args.memory.now in
    let many : response_most < field count_at 2 m = omega arith in
    sym (too_many m c.if-memory-ne-STATE_SIZE.false (listed w) (typed w') many)

pub returns : goal.returns
returns c =
    let w = (goal.at.returns c).Else-not-is_listed in
    let w' = (goal.at.returns c).Else-not-is_content_type in
    let m = c.args.memory.now in
    let n = c.read_u16-count in
    let e : n.result ≡ field count_at 2 m = n.ensures in
    let few : field count_at 2 m ≤ response_most = omega arith in
    c.all_zero_long.ensures ∙ ap (all is_zero) (lent (bytes_at + n.result) m) ∙ rw e (sym (zeros_decide m c.if-memory-ne-STATE_SIZE.false (listed w) (typed w') few))
