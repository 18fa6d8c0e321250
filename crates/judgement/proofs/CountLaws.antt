-- What an answered request adds to the requests that are served for an application ("A whole stream under the rules").
use Rattle.std.proofs.Common.{Option, Some, None}
use mathlib.Core.Path.{◌≡◌, refl, sym}
use Prim.Native.Nat.{ℕ, suc, ◌<◌}
use mathlib.Core.Bool.{Bool, true, false}
use lib.ListN.{length, get_or, length-set}
use lib.Seq.{get_or-set_same, get_or-set_other}
use lib.Dec.{eqb}
use Rattle.wire.specs.Choice.{when◌then◌else◌}
use Rattle.wire.proofs.TestLaws.{either}
use Rattle.registry.specs.declared.Line.{Line}
use Rattle.judgement.specs.Status.{status_number}
use Rattle.judgement.specs.Counts.{Counts, increment, count_refused, count_served, count}
use Rattle.judgement.specs.declared.Status.{Status}

-- there is a counter for each line, before and after
pub count_lines : (c : Counts) (o : Option Line) (status : Status) → length (count c o status).served ≡ length c.served
unfolding count
count_lines c o status =
    either (λ (x : Counts). length x.served ≡ length c.served) (eqb (status_number status) 0) (λ _. served o) (λ _. unfold count_refused in refl)
  where
    served : (o : Option Line) → length (count_served c o).served ≡ length c.served
    served None = unfold count_served in refl
    served (Some line) = unfold count_served increment in length-set c.served line.0 _

-- the count of the application that asks: one more if it is served
unfoldable pub served_next : Status → ℕ → ℕ
served_next status n = when eqb (status_number status) 0 then suc n else n

pub count_own : (c : Counts) (line : Line) (status : Status) → line.0 < length c.served
    → get_or (count c (Some line) status).served line.0 0 ≡ served_next status (get_or c.served line.0 0)
unfolding count served_next count_served count_refused increment
count_own c line status h = go (eqb (status_number status) 0)
  where
    go : (t : Bool) → get_or (when t then count_served c (Some line) else count_refused c status).served line.0 0
        ≡ (when t then suc (get_or c.served line.0 0) else get_or c.served line.0 0)
    go true = get_or-set_same c.served line.0 _ 0 h
    go false = refl

-- that of another stays
pub count_others : (c : Counts) (line line' : Line) (status : Status) → (line.0 ≡ line'.0 → ⊥)
    → get_or (count c (Some line) status).served line'.0 0 ≡ get_or c.served line'.0 0
unfolding count count_served count_refused increment
count_others c line line' status other =
    either (λ (x : Counts). get_or x.served line'.0 0 ≡ get_or c.served line'.0 0) (eqb (status_number status) 0)
    (λ _. get_or-set_other c.served line.0 line'.0 _ 0 (λ q. other (sym q))) (λ _. refl)

-- and all of them where nobody is named, or where the request is refused
pub count_nobody : (c : Counts) (status : Status) → (count c None status).served ≡ c.served
unfolding count count_served count_refused
count_nobody c status = either (λ (x : Counts). x.served ≡ c.served) (eqb (status_number status) 0) (λ _. refl) (λ _. refl)

pub count_refused_lem : (c : Counts) (o : Option Line) (status : Status) → eqb (status_number status) 0 ≡ false → (count c o status).served ≡ c.served
unfolding count count_refused
count_refused_lem c o status e = rw e
