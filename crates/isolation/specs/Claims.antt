-- What is claimed of the code (document 02, "One application can't sway another"): any histories of calls on many
-- connections, of whatever code meets the contract of a call (`CallContract`).
use Rattle.std.specs.Prelude.{ℕ, ◌≡◌, List, [], ◌∷◌}
use Rattle.stream.specs.Rules.{closed}
use Rattle.connection.specs.Connection.{connection_of}
use Rattle.registry.specs.declared.Line.{Line}
use Rattle.counters.specs.declared.Counters.{Counters}
use Rattle.service.specs.Call.{Memory, Call}
use Rattle.service.specs.Contract.{Ran, CallContract}
use Rattle.service.specs.Claims.{answers_in}
use Rattle.isolation.specs.History.{Host, lent, left, fresh_with, CallOn, History, exchanges}
use Rattle.isolation.specs.Isolated.{EachLine, Alike, SameRequests, Isolated, AllOpenAlone, AllOne, Unread, AllLast}

-- ---- calls of the code

-- one whole call after the other, each on what it is lent by the host
abbrev pub Runs : (list : List ℕ) → Host → List CallOn → List Ran → Type 0
Runs list h [] [] = Unit {0}
Runs list h [] (r ∷ rest) = ⊥
Runs list h (c ∷ calls) [] = ⊥
Runs list h (c ∷ calls) (r ∷ rest) = CallContract list (lent h c.connection) c.call r × Runs list (left h c.connection r.memory) calls rest

abbrev pub left_after : Host → List CallOn → List Ran → Host
left_after h [] runs = h
left_after h (c ∷ calls) [] = h
left_after h (c ∷ calls) (r ∷ rest) = left_after (left h c.connection r.memory) calls rest

-- what they said and left
abbrev pub ran_from : (registry : List ℕ) → Counters → List CallOn → List Ran → History
ran_from registry counters calls runs = record { answers = answers_in runs; host = left_after (fresh_with registry counters) calls runs }

-- ---- THE CLAIM, for any list of keys that we ship, any registries and any counters

pub record CodeIsolation : Type 0 where
  -- two histories, refused calls among them or not
  pub isolated : (list name : List ℕ) (line : Line) (registry registry' : List ℕ) (counters counters' : Counters)
      → EachLine counters → EachLine counters' → Alike name line registry registry' counters counters'
      → (calls calls' : List CallOn) (runs runs' : List Ran)
      → Runs list (fresh_with registry counters) calls runs → Runs list (fresh_with registry' counters') calls' runs'
      → SameRequests name calls calls' (ran_from registry counters calls runs) (ran_from registry' counters' calls' runs')
      → Isolated name line calls calls' (ran_from registry counters calls runs) (ran_from registry' counters' calls' runs')
  -- one history: responses under auth type 0 go by their own request alone
  pub open_alone : (list registry : List ℕ) (counters : Counters) (calls : List CallOn) (runs : List Ran)
      → Runs list (fresh_with registry counters) calls runs → AllOpenAlone (exchanges calls (answers_in runs))
  -- each response of it answers one request
  pub one_each : (list registry : List ℕ) (counters : Counters) (calls : List CallOn) (runs : List Ran)
      → Runs list (fresh_with registry counters) calls runs → AllOne (exchanges calls (answers_in runs))
  -- the exchange that closes a connection is the last on it
  pub closing_last : (list registry : List ℕ) (counters : Counters) (calls : List CallOn) (runs : List Ran)
      → Runs list (fresh_with registry counters) calls runs → AllLast (exchanges calls (answers_in runs))
  -- a call on a closed connection reads nothing
  pub closed_unread : (list : List ℕ) (m : Memory) (call : Call) (r : Ran) → CallContract list m call r
      → connection_of m.connection ≡ closed → Unread m r.written r.memory
