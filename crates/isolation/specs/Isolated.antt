-- What is claimed of two histories, of requests with auth type 0, and of a closed connection (document 02, "One application can't
-- sway another").
use Rattle.std.specs.Prelude.{ℕ, ◌≡◌, true, false, List, [], ◌∷◌, length, get_or, eqb, Some}
use Rattle.wire.specs.Request.{request_of}
use Rattle.stream.specs.Frame.{legal_start}
use Rattle.stream.specs.Rules.{judge, closed}
use Rattle.stream.specs.Parts.{parts_of}
use Rattle.connection.specs.Connection.{connection_of}
use Rattle.registry.specs.Registry.{line_count, names_in, application_named, slots_of, uses_of}
use Rattle.registry.specs.declared.Line.{Line}
use Rattle.judgement.specs.Counts.{no_counts}
use Rattle.judgement.specs.Judgement.{judgement}
use Rattle.counters.specs.Counters.{totals_of}
use Rattle.counters.specs.declared.Counters.{Counters}
use Rattle.service.specs.Call.{Memory}
use Rattle.isolation.specs.History.{CallOn, History, Exchange, exchanges, requests, responses, own}

-- how many requests were served for the application in this line
abbrev pub served_for : Counters → Line → ℕ
served_for counters line = get_or counters.served line.0 0

-- there is a counter for each line, as the code's type has it
abbrev pub EachLine : Counters → Type 0
EachLine counters = length counters.served ≡ line_count

-- the same roster, on which the application `name` has this line, and the same slots, counts of uses and served count for it
pub record Alike (name : List ℕ) (line : Line) (registry registry' : List ℕ) (counters counters' : Counters) : Type 0 where
  pub roster : names_in registry ≡ names_in registry'
  pub there : application_named registry name ≡ Some line
  pub slots : slots_of registry line ≡ slots_of registry' line
  pub uses : uses_of registry line ≡ uses_of registry' line
  pub served : served_for counters line ≡ served_for counters' line

-- the application's requests were the same and were answered in the same order, whatever the others sent between them
abbrev pub SameRequests : (name : List ℕ) (calls calls' : List CallOn) (o o' : History) → Type 0
SameRequests name calls calls' o o' =
    requests (own name (exchanges calls o.answers)) ≡ requests (own name (exchanges calls' o'.answers))

-- its responses, its slots, its counts of uses and its served count came out the same
pub record Isolated (name : List ℕ) (line : Line) (calls calls' : List CallOn) (o o' : History) : Type 0 where
  pub same_responses : responses (own name (exchanges calls o.answers)) ≡ responses (own name (exchanges calls' o'.answers))
  pub same_slots : slots_of o.host.registry line ≡ slots_of o'.host.registry line
  pub same_uses : uses_of o.host.registry line ≡ uses_of o'.host.registry line
  pub same_served : served_for o.host.counters line ≡ served_for o'.host.counters line

-- ---- auth type 0

-- the response to a request with no list, no registry and no counts
unfoldable pub open_response : (request : List ℕ) → List ℕ
open_response request = (judge (judgement []) [] no_counts request).response

-- a whole request with auth type 0 got it
abbrev pub OpenAlone : Exchange → Type 0
OpenAlone x = legal_start x.request ≡ true → (request_of x.request).auth_type ≡ 0 → x.response ≡ open_response x.request

abbrev pub AllOpenAlone : List Exchange → Type 0
AllOpenAlone [] = Unit {0}
AllOpenAlone (x ∷ xs) = OpenAlone x × AllOpenAlone xs

-- ---- what a response answers

-- one request, framed by itself, and no byte more
abbrev pub AllOne : List Exchange → Type 0
AllOne [] = Unit {0}
AllOne (x ∷ xs) = ((parts_of x.request).answered ≡ x.request ∷ []) × AllOne xs

-- ---- a closed connection

-- no exchange is on it
abbrev pub NoneOn : (connection : ℕ) → List Exchange → Type 0
NoneOn k [] = Unit {0}
NoneOn k (x ∷ xs) = (eqb x.connection k ≡ false) × NoneOn k xs

-- a wrong magic or H closes the connection: no exchange on it comes after
abbrev pub AllLast : List Exchange → Type 0
AllLast [] = Unit {0}
AllLast (x ∷ xs) = (legal_start x.request ≡ false → NoneOn x.connection xs) × AllLast xs

-- what a call on it writes and leaves: no response, the same registry, the same counts of served and refused requests and of
-- answered bytes, and the connection closed
pub record Unread (before : Memory) (written : ℕ) (after : Memory) : Type 0 where
  pub nothing_written : written ≡ 0
  pub still_closed : connection_of after.connection ≡ closed
  pub same_registry : after.registry ≡ before.registry
  pub same_counts : (totals_of after.counters).counts ≡ (totals_of before.counters).counts
  pub same_answered : after.counters.answered ≡ before.counters.answered
