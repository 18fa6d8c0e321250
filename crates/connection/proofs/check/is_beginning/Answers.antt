use mathlib.Core.Path.{◌≡◌, refl, sym, ap, ◌∙◌}
use mathlib.Core.Bool.{Bool, true, false}
use mathlib.Core.List.{List}
use Prim.Native.Nat.{ℕ}
use Rattle.stream.specs.Frame.{Next, unfinished, bad_start, skipped, whole, next}
use Rattle.stream.specs.code.Framed.{frame_of}
use Rattle.stream.specs.Call.{is_beginning}
use Rattle.stream.specs.declared.frame.Frame.{Frame}
use Rattle.stream.specs.declared.frame.Frame.TheVariants.{Unfinished, BadStart, Skipped, Whole}
use Rattle.connection.proofs.check.is_beginning.Goals as goal

is_unfinished : Frame → Bool
is_unfinished Unfinished = true
is_unfinished BadStart = false
is_unfinished (Skipped header missing) = false
is_unfinished (Whole n) = false

told : (s : List ℕ) (f : Frame) → f ≡ frame_of (next s) → is_unfinished f ≡ is_beginning s
unfolding is_unfinished is_beginning
told s f e = ap is_unfinished e ∙ go (next s)
  where
    go : (n : Next) → is_unfinished (frame_of n) ≡ elim n [
      | unfinished ↦ true
      | bad_start ↦ false
      | skipped header missing ↦ false
      | whole n ↦ false
    ]
    go unfinished = refl
    go bad_start = refl
    go (skipped header missing) = refl
    go (whole n) = refl

pub returns-in-Unfinished : goal.returns-in-Unfinished
unfolding is_unfinished
returns-in-Unfinished c = ap is_unfinished (sym c.in-Unfinished.is) ∙ told _ _ c.read_frame.ensures

pub returns-in_default : goal.returns-in_default
unfolding is_unfinished
returns-in_default c = other _ c.in_default.not-Unfinished ∙ told _ _ c.read_frame.ensures
  where
    other : (f : Frame) → (f ≡ Unfinished → ⊥) → false ≡ is_unfinished f
    other Unfinished n = absurd (n refl)
    other BadStart n = refl
    other (Skipped header missing) n = refl
    other (Whole n) m = refl
