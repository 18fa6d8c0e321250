use Rattle.std.proofs.Common.{◌≡◌, sym, ap, ◌∙◌, ℕ, ◌+◌, ◌*◌, ◌-◌, ◌&&◌, List, length, take, drop, arith}
use lib.ListN.{length-take, length-drop}
use Rattle.wire.specs.Lists.{all, is_zero, blocks}
use Rattle.wire.proofs.BufferLaws.{lent}
use Rattle.registry.specs.Slots.{slot_size, well_formed_slot}
use Rattle.registry.specs.Registry.{line_head}
use Rattle.registry.specs.WellFormed.{slots_well_formed}
use Rattle.registry.proofs.ChunkLaws.{blocks_lent}
use Rattle.registry.proofs.FreeLaws.{slots_free_from}
use Rattle.registry.proofs.check.are_all_slots.Goals as goal
use Rattle.registry.proofs.check.are_all_slots.Goals.{After-are_slots}

-- the slots are the first ones and the part behind them
apart : (c : After-are_slots)
    → slots_well_formed c.args.line.now ≡ c.are_slots.result && all is_zero (drop (line_head + c.args.n * slot_size) c.args.line.now)
apart c =
    let line : List ℕ = c.args.line.now in
    let n : ℕ = c.args.n in
    let size : line_head + n * slot_size - line_head ≡ n * slot_size = omega arith in
    let part : List ℕ = take (line_head + n * slot_size - line_head) (drop line_head line) in
    let long : length part ≡ n * slot_size = simp (length-take, length-drop) (omega (arith, c.requires.0, c.requires.1)) in
    slots_free_from line n c.requires.0 c.requires.1 c.requires.2
    ∙ ap (λ (t : _). t && all is_zero (drop (line_head + n * slot_size) line))
    (sym (c.are_slots.ensures n long ∙ ap (λ (k : ℕ). all well_formed_slot (blocks n slot_size (take k (drop line_head line)))) size
    ∙ ap (all well_formed_slot) (blocks_lent n slot_size (drop line_head line))))

pub returns-then-not-are_slots : goal.returns-then-not-are_slots
returns-then-not-are_slots c =
    let w = (goal.at.returns-then-not-are_slots c).After-are_slots in
    sym (apart w ∙ rw c.if-not-are_slots.true)

pub returns : goal.returns
returns c =
    let w = (goal.at.returns c).After-are_slots in
    c.all_zero_long.ensures ∙ ap (all is_zero) (lent (line_head + c.args.n * slot_size) c.args.line.now) ∙ sym (apart w ∙ rw c.if-not-are_slots.false)
