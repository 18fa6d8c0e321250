-- What a stream of requests appends to the journal: a record for each served import and destroy (document 02, "Surviving a power cut").
use Rattle.std.specs.Prelude.{ℕ, eqb, Option, Some, None}
use mathlib.Core.List.{List, [], map, flatten}
use Rattle.wire.specs.Choice.{when◌then◌else◌}
use Rattle.wire.specs.Request.{Request, request_of}
use Rattle.stream.specs.Rules.{Verdict, Judgement, rules}
use Rattle.stream.specs.Handed.{Handed, recording}
use Rattle.registry.specs.declared.Line.{Line}
use Rattle.judgement.specs.Status.{status_number}
use Rattle.messages.specs.Operations.{Operation, ping, list_providers, list_opcodes, import_key, destroy_key, export_public_key, verify_signature, operation_of}
use Rattle.messages.specs.Formats.{format_of, format_for}
use Rattle.judgement.specs.Counts.{Counts}
use Rattle.judgement.specs.Judgement.{application_of, result_of, judgement}
use Rattle.journal.specs.Record.{Act, importing, destroying, record_of}

unfoldable pub act_of : Line → Operation → Option Act
act_of line ping = None
act_of line list_providers = None
act_of line (list_opcodes provider) = None
act_of line (import_key key) = Some (importing line key)
act_of line (destroy_key name) = Some (destroying line name)
act_of line (export_public_key name) = None
act_of line (verify_signature name hash signature) = None

unfoldable pub act_asked : Option Line → Option Operation → Option Act
act_asked None operation = None
act_asked (Some line) None = None
act_asked (Some line) (Some operation) = act_of line operation

-- the import or destroy that a request is served
unfoldable pub served_act : (list registry : List ℕ) → Request → Option Act
served_act list registry q =
    when eqb (status_number (result_of list registry q).status) 0 then act_asked (application_of registry q) (operation_of (format_of (format_for q.content_type)) q.opcode q.body)
    else None

-- its record; none is no bytes
unfoldable pub record_for : Option Act → List ℕ
record_for None = []
record_for (Some act) = record_of act

unfoldable pub recorded_for : (list registry request : List ℕ) → Verdict (List ℕ) Counts (List ℕ) → List ℕ
recorded_for list registry request verdict = record_for (served_act list registry (request_of request))

-- THE JUDGEMENT, with the record beside the response
unfoldable pub journalling : (list : List ℕ) → Judgement (List ℕ) Counts Handed
journalling list = recording (recorded_for list) (judgement list)

-- the joined records of a stream under the rules
unfoldable pub records_in : List Handed → List ℕ
records_in handed = flatten (map (λ h. h.recorded) handed)

unfoldable pub journal_of : (list registry stream : List ℕ) → List ℕ
journal_of list registry stream = records_in (rules (journalling list) registry stream).responses
