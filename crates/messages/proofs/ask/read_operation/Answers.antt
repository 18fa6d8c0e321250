use Rattle.std.proofs.Common.{◌≡◌, Ok, Err, ◌∙◌, rules}
use native.Mathlib.Omega.{arith}
use Rattle.messages.specs.Formats.{format_of}
use Rattle.messages.specs.Operations.{input_fields, asking_by, asked}
use Rattle.messages.specs.code.Places.{seen}
use Rattle.messages.proofs.PlacedLaws.{input_few, input_no_lists, asked_seen, makes_ping, makes_list_providers, makes_list_opcodes, makes_import, makes_destroy, makes_export, makes_verify, makes_none}
use Rattle.messages.proofs.ask.read_operation.Goals as goal
use Rattle.messages.proofs.ask.read_operation.Goals.{In_ok-v}

-- what was read is what the fields of the body make
read_as : (c : In_ok-v) → (let s = c.args in asking_by s.opcode (seen s.body.now (input_fields s.opcode) (Ok c.in_ok-v.v)) ≡ asked (format_of s.format) s.opcode s.body.now)
read_as c =
    let s = c.args in
    asked_seen s.opcode (format_of s.format) s.body.now (Ok c.in_ok-v.v) (c.in_ok-v.ensures.0 (input_fields s.opcode) c.input_schema.ensures (input_few s.opcode) (input_no_lists s.opcode))

pub returns-in_err-v : goal.returns-in_err-v
returns-in_err-v c =
    let s = c.args in
    let v = c.in_err-v in
    let failed : c.from_residual.result ≡ Err v.field-0.0 = search rules in
    rw failed
    (asked_seen s.opcode (format_of s.format) s.body.now (Err v.field-0.0) (v.ensures.0 (input_fields s.opcode) c.input_schema.ensures (input_few s.opcode) (input_no_lists s.opcode)), v.ensures.1)

pub returns-in-1 : goal.returns-in-1
returns-in-1 c =
    let w = (goal.at.returns-in-1 c).In_ok-v in
    let made = makes_ping c.args.opcode c.args.body.now c.in_ok-v.v c.in-1.is ∙ read_as w in
    (made, tt)

pub returns-in-8 : goal.returns-in-8
returns-in-8 c =
    let w = (goal.at.returns-in-8 c).In_ok-v in
    let made = makes_list_providers c.args.opcode c.args.body.now c.in_ok-v.v c.in-8.is ∙ read_as w in
    (made, tt)

pub returns-in-9 : goal.returns-in-9
returns-in-9 c =
    let w = (goal.at.returns-in-9 c).In_ok-v in
    let made = makes_list_opcodes c.args.opcode c.args.body.now c.in_ok-v.v c.in-9.is ∙ read_as w in
    (made, tt)

pub returns-in-6 : goal.returns-in-6
returns-in-6 c =
    let w = (goal.at.returns-in-6 c).In_ok-v in
    let made = makes_import c.args.opcode c.args.body.now c.in_ok-v.v c.in-6.is ∙ read_as w in
    rw (c.span_of.ensures, c.span_of-in-6.ensures) (made, (c.in_ok-v.ensures.1.in1, c.in_ok-v.ensures.1.in2))

pub returns-in-3 : goal.returns-in-3
returns-in-3 c =
    let w = (goal.at.returns-in-3 c).In_ok-v in
    let made = makes_destroy c.args.opcode c.args.body.now c.in_ok-v.v c.in-3.is ∙ read_as w in
    rw c.span_of-in-3.ensures (made, c.in_ok-v.ensures.1.in1)

pub returns-in-7 : goal.returns-in-7
returns-in-7 c =
    let w = (goal.at.returns-in-7 c).In_ok-v in
    let made = makes_export c.args.opcode c.args.body.now c.in_ok-v.v c.in-7.is ∙ read_as w in
    rw c.span_of-in-7.ensures (made, c.in_ok-v.ensures.1.in1)

pub returns-in-5 : goal.returns-in-5
returns-in-5 c =
    let w = (goal.at.returns-in-5 c).In_ok-v in
    let made = makes_verify c.args.opcode c.args.body.now c.in_ok-v.v c.in-5.is ∙ read_as w in
    rw (c.span_of-in-5.ensures, c.span_of-in-5-2.ensures, c.span_of-in-5-3.ensures) (made, (c.in_ok-v.ensures.1.in1, c.in_ok-v.ensures.1.in2, c.in_ok-v.ensures.1.in3))

pub returns-in_default : goal.returns-in_default
returns-in_default c =
    let w = (goal.at.returns-in_default c).In_ok-v in
    (makes_none c.args.opcode c.args.body.now c.in_ok-v.v (λ z. omega arith) (λ z. omega arith) (λ z. omega arith) (λ z. omega arith) (λ z. omega arith) (λ z. omega arith) (λ z. omega arith) ∙ read_as w, omega arith)
