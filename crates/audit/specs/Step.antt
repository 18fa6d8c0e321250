-- THE AUDITOR'S STEP AND ITS END on lent memory: the whole outcome of each, which the code's contracts cite.
use Rattle.std.specs.Prelude.{ℕ, ◌+◌, ◌-◌, ◌^◌, Bool, false, ◌&&◌, ◌||◌, not, List, length, take, drop, eqb, leb, ltb, Option, Some, None}
use Rattle.wire.specs.Choice.{when◌then◌else◌}
use Rattle.judgement.specs.Judgement.{longest_response}
use Rattle.service.specs.Call as service
use Rattle.service.specs.Call.{CallOutcome, call_outcome}
use Rattle.service.specs.Contract.{call_with}
use Rattle.audit.specs.Audit.{alike}
use Rattle.audit.specs.declared.Progress.{Progress}
use Rattle.audit.specs.declared.Verdict.{Verdict}
use Rattle.audit.specs.declared.Verdict.TheVariants.{Accepted, Wrong}

-- ---- what a step is lent

-- and changes
pub record Memory : Type 0 where
  pub service : service.Memory  -- connection, registry and counters: the call's
  pub progress : Progress
  pub pending : List ℕ  -- a buffer: its first bytes are the last response's

-- a chunk of each stream; whether no response byte comes behind it; and a buffer for records of the journal, which nobody keeps
pub record Chunks : Type 0 where
  pub requests : List ℕ
  pub responses : List ℕ
  pub is_last : Bool
  pub journal : List ℕ

abbrev pub audit_memory : service.Memory → Progress → (pending : List ℕ) → Memory
audit_memory m progress pending = record { service = m; progress = progress; pending = pending }

abbrev pub chunks_with : (requests responses : List ℕ) (is_last : Bool) (journal : List ℕ) → Chunks
chunks_with requests responses is_last journal = record { requests = requests; responses = responses; is_last = is_last; journal = journal }

-- what a step says and leaves
pub record StepOutcome : Type 0 where
  pub refusal : Option ℕ  -- none: the step was not refused
  pub requests : ℕ  -- how many bytes it took of each
  pub responses : ℕ
  pub memory : Memory
  pub journal : List ℕ

-- ---- the auditor's own state

abbrev pub progress_with : (number size place : ℕ) (isWrong : Bool) → Progress
progress_with number size place isWrong = record { number = number; size = size; place = place; is_wrong = isWrong }

unfoldable pub begun : Progress
begun = progress_with 0 0 0 false

-- a call is refused long before there are so many responses
abbrev pub number_most : ℕ
number_most = 2 ^ 63

unfoldable pub well_formed_progress : Progress → (pending : List ℕ) → Bool
well_formed_progress p pending = leb p.place p.size && (leb p.size (length pending) && (leb p.size longest_response && leb p.number number_most))

-- bytes of a response are still to be compared
unfoldable pub is_pending : Progress → Bool
is_pending p = not p.is_wrong && ltb p.place p.size

-- these
abbrev pub left_of : Progress → (pending : List ℕ) → List ℕ
left_of p pending = take (p.size - p.place) (drop p.place pending)

-- ---- a step

-- a wrong byte is found where n bytes are alike: one that differs, or one that is missing where no byte comes behind
unfoldable pub is_found : (n left here : ℕ) (is_last : Bool) → Bool
is_found n left here is_last = ltb n left && (ltb n here || is_last)

abbrev pub advanced : Progress → (n : ℕ) (isWrong : Bool) → Progress
advanced p n isWrong = progress_with p.number p.size (p.place + n) isWrong

-- right bytes are taken, and a wrong one is not
unfoldable pub compare_on : Memory → Chunks → StepOutcome
compare_on m chunks =
    let left = left_of m.progress m.pending in
    let n = alike left chunks.responses in
    record {
      refusal = None;
      requests = 0;
      responses = n;
      memory = audit_memory m.service (advanced m.progress n (is_found n (length left) (length chunks.responses) chunks.is_last)) m.pending;
      journal = chunks.journal;
    }

-- the next response is pending; where none was written, or a byte was wrong before, all stays
unfoldable pub after_call : Progress → (written : ℕ) → Progress
after_call p written = when (p.is_wrong || eqb written 0) then p else progress_with (p.number + 1) written 0 false

unfoldable pub call_on : (list : List ℕ) → Memory → Chunks → StepOutcome
call_on list m chunks =
    let o = call_outcome list m.service (call_with chunks.requests m.pending chunks.journal) in
    record {
      refusal = o.answer.refusal;
      requests = o.answer.taken;
      responses = 0;
      memory = audit_memory o.memory (after_call m.progress o.answer.given.response.count) o.answer.given.response.buffer;
      journal = o.answer.given.journal.buffer;
    }

-- an ill-formed state: nothing is taken or altered
abbrev pub ill_formed : ℕ
ill_formed = 8

unfoldable pub refuse_on : Memory → Chunks → StepOutcome
refuse_on m chunks = record { refusal = Some ill_formed; requests = 0; responses = 0; memory = m; journal = chunks.journal }

-- THE STEP: of a pair of chunks it takes bytes of one
unfoldable pub step_outcome : (list : List ℕ) → Memory → Chunks → StepOutcome
step_outcome list m chunks =
    when not (well_formed_progress m.progress m.pending) then refuse_on m chunks
    else when is_pending m.progress then compare_on m chunks
    else call_on list m chunks

-- ---- the end of both streams

-- `rest` is what is left of the responses
unfoldable pub verdict_at : Progress → (pending rest : List ℕ) → Verdict
verdict_at p pending rest =
    let left = left_of p pending in
    let n = alike left rest in
    when p.is_wrong then Wrong p.number p.place
    else when ltb n (length left) then Wrong p.number (p.place + n)
    else when ltb n (length rest) then Wrong (p.number + 1) 0
    else Accepted

unfoldable pub end_outcome : Progress → (pending rest : List ℕ) → Option Verdict
end_outcome p pending rest = when not (well_formed_progress p pending) then None else Some (verdict_at p pending rest)
