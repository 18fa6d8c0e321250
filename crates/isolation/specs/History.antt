-- Many connections share one registry and one set of counters, one whole call at a time: histories of calls, and what they
-- answered (document 02, "One application can't sway another").
use Rattle.std.specs.Prelude.{ℕ, Bool, not, List, [], ◌∷◌, ◌++◌, map, take, eqb}
use Rattle.wire.specs.Choice.{when◌then◌else◌}
use Rattle.wire.specs.Lists.{every, same}
use Rattle.wire.specs.Request.{request_of}
use Rattle.reading.specs.Buffer.{bytes_of}
use Rattle.stream.specs.Frame.{legal_start, oversized}
use Rattle.stream.specs.Rules.{opened}
use Rattle.connection.specs.Connection.{connection_bytes}
use Rattle.counters.specs.declared.Counters.{Counters}
use Rattle.service.specs.Call.{Memory, Call, Answer, call_outcome}

-- ---- what the host keeps

-- each connection's memory by the connection's number, and what all of them share
pub record Host : Type 0 where
  pub connections : ℕ → List ℕ
  pub registry : List ℕ
  pub counters : Counters

-- `f` with `v` at k
unfoldable pub with : {A : Type 0} → (f : ℕ → A) (k : ℕ) (v : A) → ℕ → A
with f k v j = when eqb j k then v else f j

-- what a call on connection k is lent, and what the host keeps after it
abbrev pub lent : Host → (k : ℕ) → Memory
lent h k = record { connection = h.connections k; registry = h.registry; counters = h.counters }

abbrev pub left : Host → (k : ℕ) → Memory → Host
left h k after = record { connections = with h.connections k after.connection; registry = after.registry; counters = after.counters }

-- all connections are fresh
abbrev pub fresh_with : (registry : List ℕ) → Counters → Host
fresh_with registry counters = record { connections = λ k. connection_bytes (opened []); registry = registry; counters = counters }

-- ---- a history

-- a call on one of the connections
pub record CallOn : Type 0 where
  pub connection : ℕ
  pub call : Call

-- what the calls said, and what the host keeps after them
pub record History : Type 0 where
  pub answers : List Answer
  pub host : Host

-- one whole call after the other; all are lent the same list of keys that we ship
unfoldable pub history_of : (list : List ℕ) → Host → List CallOn → History
history_of list h [] = record { answers = []; host = h }
history_of list h (c ∷ calls) =
    let o = call_outcome list (lent h c.connection) c.call in
    let rest = history_of list (left h c.connection o.memory) calls in
    record { answers = o.answer ∷ rest.answers; host = rest.host }

-- ---- what it answered

-- a request, all of its bytes, and the response to it, on one of the connections
pub record Exchange : Type 0 where
  pub connection : ℕ
  pub request : List ℕ
  pub response : List ℕ

-- in the order of the responses: each answers the bytes that its connection took since the response before, `waiting` being
-- those that each connection has already. Bytes that a closed connection drops are never answered
unfoldable pub exchanges_from : (waiting : ℕ → List ℕ) → List CallOn → List Answer → List Exchange
exchanges_from waiting [] answers = []
exchanges_from waiting (c ∷ calls) [] = []
exchanges_from waiting (c ∷ calls) (a ∷ answers) =
    let bytes = waiting c.connection ++ take a.taken c.call.chunk in
    when eqb a.given.response.count 0 then exchanges_from (with waiting c.connection bytes) calls answers
    else (record { connection = c.connection; request = bytes; response = bytes_of a.given.response } ∷ exchanges_from (with waiting c.connection []) calls answers)

unfoldable pub exchanges : List CallOn → List Answer → List Exchange
exchanges calls answers = exchanges_from (λ k. []) calls answers

abbrev pub requests : List Exchange → List (List ℕ)
requests xs = map (λ x. x.request) xs

abbrev pub responses : List Exchange → List (List ℕ)
responses xs = map (λ x. x.response) xs

-- ---- an application's own

-- a whole request, C and A within bounds, auth type 1 with this name; what is answered is whole where its magic and H are good
abbrev pub own_tests : (name request : List ℕ) → List Bool
own_tests name request =
    legal_start request ∷ not (oversized request) ∷ eqb (request_of request).auth_type 1 ∷ same (request_of request).auth name ∷ []

unfoldable pub is_by : (name request : List ℕ) → Bool
is_by name request = every (own_tests name request)

-- those whose request passes the test
unfoldable pub those : (List ℕ → Bool) → List Exchange → List Exchange
those p [] = []
those p (x ∷ xs) = when p x.request then x ∷ those p xs else those p xs

abbrev pub own : (name : List ℕ) → List Exchange → List Exchange
own name xs = those (is_by name) xs
