use Rattle.std.proofs.Common.{Option, Some, None, Ok}
use Prim.Native.Nat.{ℕ, ◌+◌, ◌-◌, ◌≤◌}
use mathlib.Core.Path.{◌≡◌, sym, ap, subst, ◌∙◌}
use mathlib.Core.List.{List}
use native.Mathlib.Omega.{arith}
use lib.ListN.{length, take, drop}
use Rattle.messages.specs.Formats.{format_of, format_for}
use Rattle.messages.specs.Operations.{answer_of}
use Rattle.messages.specs.Placed.{read_in, OutputWithin, ReadWithin}
use Rattle.messages.specs.declared.format.BodyFormat.{BodyFormat}
use Rattle.messages.specs.declared.read.Output.{Output as OutputPlaces}
use Rattle.client_responses.specs.Reading.{response_content_most, body_reply}
use Rattle.client_responses.specs.State.{state_size}
use Rattle.client_responses.specs.Handed.{format_in}
use Rattle.client_responses.specs.code.Looked.{body_at, whole, Looked}
use Rattle.client_responses.proofs.LookLaws.{within_more, body_long, said_output, said_unreadable}
use Rattle.client_responses.proofs.look.read_reply.Goals as goal

-- a body read, as a callee says it of a format and of so many bytes
abbrev ReadAs : List ℕ → (opcode status : ℕ) → Option OutputPlaces → BodyFormat → ℕ → Type 0
ReadAs m opcode status r f n =
    let body = take n (drop body_at m) in
    (read_in f body r ≡ answer_of (format_of f) opcode status body) × ReadWithin (length body) r

-- what was read, of the body
reading : (m : List ℕ) (opcode status content : ℕ) (r : Option OutputPlaces) (f : BodyFormat) → f ≡ format_in m
    → ReadAs m opcode status r f (body_at + content - body_at) → ReadAs m opcode status r (format_in m) content
reading m opcode status content r f format_is read =
    let same : body_at + content - body_at ≡ content = omega arith in
    subst (λ (f : BodyFormat). ReadAs m opcode status r f content) format_is (subst (ReadAs m opcode status r f) same read)

output_within : (m : List ℕ) → length m ≡ state_size → (opcode status content : ℕ) → content ≤ response_content_most → (o : OutputPlaces)
    → ReadAs m opcode status (Some o) (format_in m) content → OutputWithin content o
output_within m size opcode status content few o read = subst (λ (n : ℕ). OutputWithin n o) (body_long m size opcode status content few) read.1

pub move_output-requires : goal.move_output-requires
move_output-requires c =
    let a = c.args in
    let m : List ℕ = a.memory.now in
    let read = reading m a.opcode a.status a.content (Some c.in-Some.output) _ (c.format_for-format.ensures ∙ ap format_for c.accept_type_of.ensures) c.in-Some.ensures in
    within_more a.content response_content_most c.requires.1 c.in-Some.output (output_within m c.requires.0 a.opcode a.status a.content c.requires.1 _ read)

pub returns-in-Some : goal.returns-in-Some
returns-in-Some c =
    let a = c.args in
    let m : List ℕ = a.memory.now in
    let body : List ℕ = take a.content (drop body_at m) in
    let read = reading m a.opcode a.status a.content (Some c.in-Some.output) _ (c.format_for-format.ensures ∙ ap format_for c.accept_type_of.ensures) c.in-Some.ensures in
    subst (λ (o : OutputPlaces). Looked m (Some (body_reply (format_in m) a.opcode a.status body)) (whole (Ok (record { status = a.status; output = o })))) (sym c.move_output.ensures)
    (said_output m c.requires.0 a.opcode a.status a.content c.requires.1 c.in-Some.output read.0 (output_within m c.requires.0 a.opcode a.status a.content c.requires.1 _ read))

pub returns-in-None : goal.returns-in-None
returns-in-None c =
    let a = c.args in
    let read = reading a.memory.now a.opcode a.status a.content None _ (c.format_for-format.ensures ∙ ap format_for c.accept_type_of.ensures) c.in-None.ensures in
    said_unreadable a.memory.now c.requires.0 a.opcode a.status a.content c.requires.1 read.0
