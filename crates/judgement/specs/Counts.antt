-- Document 01's tally: what an answered request counts ("A whole stream under the rules").
use Rattle.std.specs.Prelude.{ℕ, suc, ◌+◌, List, [], ◌∷◌, get_or, set, replicate, eqb, Option, Some, None}
use Rattle.wire.specs.Choice.{when◌then◌else◌}
use Rattle.registry.specs.Registry.{line_count}
use Rattle.registry.specs.declared.Line.{Line}
use Rattle.judgement.specs.Status.{status_number, refused_statuses, refused_count}
use Rattle.judgement.specs.declared.Status.{Status}

pub record Counts : Type 0 where
  pub served : List ℕ  -- for each roster line
  pub unauthenticated : ℕ  -- served with auth type 0
  pub refused : List ℕ  -- for each of refused_statuses

unfoldable pub no_counts : Counts
no_counts = record { served = replicate line_count 0; unauthenticated = 0; refused = replicate refused_count 0 }

unfoldable pub sum : List ℕ → ℕ
sum [] = 0
sum (n ∷ ns) = n + sum ns

-- all requests that are counted: served for all lines, served with auth type 0, refused for all statuses
unfoldable pub requests_in : Counts → ℕ
requests_in c = sum c.served + c.unauthenticated + sum c.refused

-- one more in the counter number i
unfoldable pub increment : List ℕ → (i : ℕ) → List ℕ
increment counters i = set counters i (suc (get_or counters i 0))

-- where a status stands among others
unfoldable pub index_of : Status → List Status → ℕ
index_of status [] = 0
index_of status (s ∷ statuses) = when eqb (status_number status) (status_number s) then 0 else suc (index_of status statuses)

unfoldable pub count_refused : Counts → Status → Counts
count_refused c status = record {
  served = c.served;
  unauthenticated = c.unauthenticated;
  refused = increment c.refused (index_of status refused_statuses);
}

-- for the roster line of the auth name, or with auth type 0
unfoldable pub count_served : Counts → Option Line → Counts
count_served c None = record { served = c.served; unauthenticated = suc c.unauthenticated; refused = c.refused }
count_served c (Some line) = record { served = increment c.served line.0; unauthenticated = c.unauthenticated; refused = c.refused }

-- status 0 is one more served, any other one more refused with that status
unfoldable pub count : Counts → Option Line → Status → Counts
count c line status = when eqb (status_number status) 0 then count_served c line else count_refused c status
