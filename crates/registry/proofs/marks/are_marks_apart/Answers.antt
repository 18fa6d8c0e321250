use Rattle.std.proofs.Common.{◌≡◌, refl, sym, ap, ◌∙◌, ℕ, ◌+◌, ◌≤◌, ◌<◌, Bool, true, false, not, ◌&&◌, List, [], length, get_or, set, map}
use mathlib.Core.Bool.{false≢true}
use mathlib.Core.Path.{subst}
use borrow.Author.Tests.{ne_eqb, not-false}
use lib.ListN.{length-set}
use lib.Seq.{take_all}
use Rattle.wire.specs.Lists.{all}
use Rattle.wire.proofs.BlockLaws.{length_blocks}
use Rattle.keys.specs.code.Marks.{differs_from}
use Rattle.registry.specs.Names.{name_in, distinct}
use Rattle.registry.specs.Slots.{slot_size}
use Rattle.registry.specs.Registry.{slot_count, slots_in}
use Rattle.registry.proofs.MarkLaws.{line_sound, mark_of, Marked, marked_none, marked_more, first_there, mark_there}
use Rattle.registry.proofs.marks.are_marks_apart.Goals as goal

pub loop-i-init : goal.loop-i-init
loop-i-init c = (refl, marked_none _ _)

pub returns-then-is_repeated : goal.returns-then-is_repeated
returns-then-is_repeated c = λ e. absurd (false≢true e)

pub loop-i-preserved : goal.loop-i-preserved
loop-i-preserved c =
    let line : List ℕ = c.args.line.now in
    let l = c.loop-i in
    let h : l.i < slot_count = c.loop-i-test.true in
    let slots : List (List ℕ) = slots_in line in
    let slot : List ℕ = get_or slots l.i [] in
    let marked : c.mark_of-mark.result ≡ mark_of slot = c.mark_of-mark.ensures ∙ mark_there line l.i h in
    let few : l.i < length slots = rw (length_blocks slot_size slot_count _) h in
    let wide : l.i < length l.marks = rw l.invariant.0 h in
    let apart : (get_or slot 0 0 ≡ 0 → ⊥) → all (differs_from (mark_of slot)) l.marks ≡ true = λ z.
    let others : Bool = all (differs_from c.mark_of-mark.result) l.marks in
    let named = ne_eqb _ 0 (λ q. z (first_there line l.i h ∙ q)) in
    let none : not others ≡ false = sym (ap (λ (b : Bool). not b && not others) named) ∙ sym c.is_repeated.ensures ∙ c.if-is_repeated.false in
    ap (λ (m : ℕ). all (differs_from m) l.marks) (sym marked) ∙ not-false others none in
    let more = marked_more slots (line_sound line c.requires.0 c.requires.1) l.marks l.i few wide l.invariant.1 apart in (
      length-set l.marks l.i c.mark_of-mark.result ∙ l.invariant.0,
      subst (λ (m : ℕ). Marked slots (set l.marks l.i m) (l.i + 1)) (sym marked) more,
    )

pub returns : goal.returns
returns c =
    let l = c.loop-i in
    let slots : List (List ℕ) = slots_in c.args.line.now in
    let long : length slots ≤ l.i = rw (length_blocks slot_size slot_count _) c.loop-i-test.false in
    λ e. ap (λ (s : List (List ℕ)). distinct (map name_in s)) (sym (take_all l.i slots long)) ∙ l.invariant.1.lone
