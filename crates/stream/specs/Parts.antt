-- The parts of a stream, told by framing alone: no judgement, registry or counter. And the responses to the requests among
-- them, one for each ("A whole stream under the rules").
use Rattle.std.specs.Prelude.{ℕ, zero, suc, length, take, drop}
use mathlib.Core.List.{List, [], ◌∷◌, ◌++◌, flatten}
use Rattle.wire.specs.Choice.{when◌then◌else◌}
use Rattle.stream.specs.Frame.{legal_start, unfinished, bad_start, skipped, whole, next}
use Rattle.stream.specs.Rules.{Verdict, Judgement, judge}

pub record Parts : Type 0 where
  pub answered : List (List ℕ)  -- the answered requests, in order; of one with a wrong magic or H its six bytes
  pub held : List ℕ  -- the unfinished one
  pub dropped : List ℕ  -- what comes after closing

-- every byte of the parts, once
unfoldable pub joined : Parts → List ℕ
joined p = flatten p.answered ++ (p.held ++ p.dropped)

-- one answered request more, in front of the others
unfoldable pub and_before : (request : List ℕ) → Parts → Parts
and_before request p = record { answered = request ∷ p.answered; held = p.held; dropped = p.dropped }

-- all bytes are an unfinished request
unfoldable pub held_parts : List ℕ → Parts
held_parts bytes = record { answered = []; held = bytes; dropped = [] }

-- six bytes close the connection, and the rest is dropped
unfoldable pub closing_parts : List ℕ → Parts
closing_parts bytes = record { answered = take 6 bytes ∷ []; held = []; dropped = drop 6 bytes }

-- `fuel` is more than the requests left
unfoldable pub parts_within : (fuel : ℕ) → List ℕ → Parts
parts_within zero bytes = held_parts bytes
parts_within (suc fuel) bytes = elim (next bytes) [
  | unfinished ↦ held_parts bytes
  | bad_start ↦ closing_parts bytes
  | skipped header missing ↦ held_parts bytes
  | whole n ↦ and_before (take n bytes) (parts_within fuel (drop n bytes))
]

-- a request has a byte at least
unfoldable pub parts_of : (stream : List ℕ) → Parts
parts_of stream = parts_within (suc (length stream)) stream

module _ {Reg Count Out : Type 0} (J : Judgement Reg Count Out) where
  unfoldable pub verdict_on : Reg → Count → (request : List ℕ) → Verdict Reg Count Out
  verdict_on registry counts request =
      when legal_start request then judge J registry counts request else J.on_bad_start registry counts

  -- one response for each request, each judged on what the one before it left
  unfoldable pub responses_from : Reg → Count → (requests : List (List ℕ)) → List Out
  responses_from registry counts [] = []
  responses_from registry counts (request ∷ requests) =
      let v = verdict_on registry counts request in
      v.response ∷ responses_from v.registry v.counts requests

  unfoldable pub responses_to : Reg → (requests : List (List ℕ)) → List Out
  responses_to registry requests = responses_from registry J.no_counts requests
