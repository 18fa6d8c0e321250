-- "A whole stream under the rules": an uncut stream, request by request, whatever the judgement of a request may be.
use Rattle.std.specs.Prelude.{ℕ, zero, suc, ◌+◌, ◌-◌, List, [], ◌∷◌, ◌++◌, length, take, drop}
use Rattle.wire.specs.Choice.{when◌then◌else◌}
use Rattle.wire.specs.Request.{header_length, request_length}
use Rattle.stream.specs.Frame.{oversized, unfinished, bad_start, skipped, whole, next}

-- ---- the judgement of one request, left open here

-- what an answered request brings: a response, and the registry and the counts after it
pub record Verdict (Reg Count Out : Type 0) : Type 0 where
  pub response : Out
  pub registry : Reg
  pub counts : Count

pub record Judgement (Reg Count Out : Type 0) : Type 0 where
  pub no_counts : Count
  pub on_bad_start : Reg → Count → Verdict Reg Count Out
  pub on_oversized : Reg → Count → (header : List ℕ) → Verdict Reg Count Out
  pub on_request : Reg → Count → (request : List ℕ) → Verdict Reg Count Out

-- ---- what is kept

pub data Connection : Type 0 where
  opened : (held : List ℕ) → Connection  -- the beginning of a request
  skipping : (header : List ℕ) (to_go : ℕ) → Connection  -- of an oversized request
  closed : Connection

-- bytes of an unfinished request; of an oversized one all that have been seen
unfoldable pub held_bytes : Connection → ℕ
held_bytes (opened held) = length held
held_bytes (skipping header to_go) = request_length header - to_go
held_bytes closed = 0

-- document 01's tally: bytes taken, bytes of answered requests, bytes dropped, and counts of requests
pub record Totals (Count : Type 0) : Type 0 where
  pub taken : ℕ
  pub answered : ℕ
  pub dropped : ℕ
  pub counts : Count

pub record State (Reg Count : Type 0) : Type 0 where
  pub connection : Connection
  pub registry : Reg
  pub totals : Totals Count

-- the responses, in the order of the requests, and what is kept after them
pub record Outcome (Reg Count Out : Type 0) : Type 0 where
  pub responses : List Out
  pub state : State Reg Count

-- ---- the rules

-- what the requests read so far have brought
pub record Progress (Reg Count Out : Type 0) : Type 0 where
  pub responses : List Out
  pub registry : Reg
  pub answered : ℕ
  pub counts : Count

module _ {Reg Count Out : Type 0} where
  -- one more request, of n bytes, is answered
  unfoldable pub answer : Progress Reg Count Out → (n : ℕ) → Verdict Reg Count Out → Progress Reg Count Out
  answer p n v = record {
    responses = p.responses ++ (v.response ∷ []);
    registry = v.registry;
    answered = p.answered + n;
    counts = v.counts;
  }

  -- the end of the stream
  unfoldable pub finish : Progress Reg Count Out → (taken dropped : ℕ) → Connection → Outcome Reg Count Out
  finish p taken dropped connection = record {
    responses = p.responses;
    state = record {
      connection = connection;
      registry = p.registry;
      totals = record { taken = taken; answered = p.answered; dropped = dropped; counts = p.counts };
    };
  }

module _ {Reg Count Out : Type 0} (J : Judgement Reg Count Out) where
  -- a whole request
  unfoldable pub judge : Reg → Count → (request : List ℕ) → Verdict Reg Count Out
  judge registry counts request =
      when oversized request then J.on_oversized registry counts (take (header_length request) request)
      else J.on_request registry counts request

  -- of the bytes not yet read; `taken` is the length of the whole stream, and `fuel` is more than the requests left
  unfoldable pub rules_within : (fuel taken : ℕ) → Progress Reg Count Out → List ℕ → Outcome Reg Count Out
  rules_within zero taken p bytes = finish p taken 0 (opened bytes)
  rules_within (suc fuel) taken p bytes = elim (next bytes) [
    | unfinished ↦ finish p taken 0 (opened bytes)
    | bad_start ↦ finish (answer p 6 (J.on_bad_start p.registry p.counts)) taken (length bytes - 6) closed
    | skipped header missing ↦ finish p taken 0 (skipping header missing)
    | whole n ↦ rules_within fuel taken (answer p n (judge p.registry p.counts (take n bytes))) (drop n bytes)
  ]

  -- a request has a byte at least
  unfoldable pub rules_from : (taken : ℕ) → Progress Reg Count Out → List ℕ → Outcome Reg Count Out
  rules_from taken p bytes = rules_within (suc (length bytes)) taken p bytes

  unfoldable pub start : Reg → Progress Reg Count Out
  start registry = record { responses = []; registry = registry; answered = 0; counts = J.no_counts }

  -- the rules are fed the start registry and the uncut stream
  unfoldable pub rules : Reg → (stream : List ℕ) → Outcome Reg Count Out
  rules registry stream = rules_from (length stream) (start registry) stream
