-- A conversation: requests, and what the client that sent them is to hear by the rules, request by request.
use Rattle.std.specs.Prelude.{ℕ, List, [], ◌∷◌}
use Rattle.wire.specs.Choice.{when◌then◌else◌}
use Rattle.wire.specs.Request.{request_of, request_bytes}
use Rattle.messages.specs.Operations.{Operation, opcode_of}
use Rattle.stream.specs.Frame.{oversized}
use Rattle.stream.specs.Parts.{verdict_on}
use Rattle.judgement.specs.Status.{status_number}
use Rattle.judgement.specs.Operations.{Result, refuse}
use Rattle.judgement.specs.Counts.{Counts, no_counts}
use Rattle.judgement.specs.Judgement.{oversized_status, result_of, verdict_of, judgement}
use Rattle.client_requests.specs.Writing.{Sender, request_for}
use Rattle.client_requests.specs.declared.Types.{Types}
use Rattle.client_responses.specs.Reading.{Reply, answered}
use Rattle.client_responses.specs.declared.Asked.{Asked}

-- a result as it is heard: a status's number and an output
abbrev pub reply_of : Result → Reply
reply_of r = answered (status_number r.status) r.output

-- ---- any whole request, by its bytes

-- as the reader of its response knows it
unfoldable pub asked_by : (request : List ℕ) → Asked
asked_by request = record { opcode = (request_of request).opcode; session = (request_of request).session; accept_type = (request_of request).accept_type }

-- what the rules give it: an oversized one is refused by its header alone
unfoldable pub result_for : (list registry request : List ℕ) → Result
result_for list registry request =
    when oversized request then refuse (oversized_status request) else result_of list registry (request_of request)

-- one after the other under one list, each on what the one before it left
unfoldable pub replies_in_turn : (list registry : List ℕ) → Counts → (requests : List (List ℕ)) → List Reply
replies_in_turn list registry counts [] = []
replies_in_turn list registry counts (request ∷ requests) =
    let v = verdict_on (judgement list) registry counts request in
    reply_of (result_for list registry request) ∷ replies_in_turn list v.registry v.counts requests

-- ---- a request that the client writes

-- what it is asked to write
pub record Ask : Type 0 where
  pub session : ℕ
  pub types : Types
  pub sender : Sender
  pub operation : Operation

-- the request's bytes
unfoldable pub written : Ask → List ℕ
written ask = request_bytes (request_for ask.session ask.types ask.sender ask.operation)

-- the request as the reader of its response knows it
unfoldable pub asked_for : Ask → Asked
asked_for ask = record { opcode = opcode_of ask.operation; session = ask.session; accept_type = ask.types.accept }

-- the results that the rules give for the operations under one list, one after the other
unfoldable pub replies_from : (list registry : List ℕ) → Counts → List Ask → List Reply
replies_from list registry counts [] = []
replies_from list registry counts (ask ∷ asks) =
    let q = request_for ask.session ask.types ask.sender ask.operation in
    let r = result_of list registry q in
    let v = verdict_of registry counts q r in
    reply_of r ∷ replies_from list v.registry v.counts asks

unfoldable pub replies_to : (list registry : List ℕ) → List Ask → List Reply
replies_to list registry asks = replies_from list registry no_counts asks
