use Rattle.std.proofs.Common.{Option, Some, None, Result, Ok}
use Prim.Native.Nat.{ℕ, ◌+◌, ◌-◌, ◌≤◌}
use mathlib.Core.List.{List}
use mathlib.Core.Bool.{false}
use mathlib.Core.Path.{◌≡◌, refl, sym, ◌∙◌}
use native.Mathlib.Omega.{arith}
use borrow.Author.Rules.{rules}
use lib.ListN.{length, take, drop, length-take}
use Rattle.wire.specs.Request.{request_of, request_length}
use Rattle.wire.specs.Choice.{first_of}
use Rattle.wire.specs.code.Header.{header_of}
use Rattle.wire.specs.declared.header.Header.{Header}
use Rattle.stream.specs.Frame.{content_most, oversized}
use Rattle.stream.proofs.FrameLaws.{legal_size}
use Rattle.registry.specs.Registry.{application_named}
use Rattle.registry.specs.declared.Line.{Line}
use Rattle.registry.proofs.WellFormedLaws.{good_of}
use Rattle.judgement.specs.Judgement.{askers_slots, changed_by}
use Rattle.judgement.specs.code.Decided.{header_tests, auth_of}
use Rattle.judgement.specs.declared.Status.{Status}
use Rattle.judgement.proofs.JudgementLaws.{asks}
use Rattle.journal.specs.Journalling.{record_for}
use Rattle.journal.specs.code.Written.{act_of_asker}
use Rattle.answer.specs.code.Answers.{sender_of}
use Rattle.answer.proofs.AnswerLaws.{sender_found, header_passed, sender_refused, by_nobody, by_application, body_there, auth_there, content_small, no_record, answered_refused, answered}
use Rattle.answer.proofs.request.answer_request.Goals as goal
use Rattle.answer.proofs.request.answer_request.Goals.{After-judge_sender}

pub read_header-h-requires : goal.read_header-h-requires
read_header-h-requires c = omega (arith, c.requires.1, legal_size c.args.request.now c.requires.0)

-- the header and the body lie within the request
inside : (r : List ℕ) (h : Header) → h ≡ header_of r → length r ≡ request_length r → 6 + h.size + h.content_length ≤ length r
unfolding header_of
inside r h e size = rw e (omega (arith, size))

-- and the body is short
small : (r : List ℕ) (h : Header) → h ≡ header_of r → oversized r ≡ false → h.content_length ≤ content_most
unfolding header_of
small r h e few = rw e (content_small r few)

-- the auth bytes, and who is found to ask
abbrev auth_bytes : (r : List ℕ) → Header → List ℕ
auth_bytes r h = take (length r - (6 + h.size + h.content_length)) (drop (6 + h.size + h.content_length) r)

found : (registry r : List ℕ) (h : Header) (t : Result (Option Line) Status) → h ≡ header_of r → length r ≡ request_length r
    → t ≡ sender_of (first_of (header_tests h)) (auth_of h.auth_type (auth_bytes r h) (application_named registry (auth_bytes r h)))
    → t ≡ sender_found registry r
unfolding header_of
found registry r h t e size is = rw (auth_there r _ size refl) at (rw e at is)

sender : (c : After-judge_sender) → c.judge_sender.result ≡ sender_found c.args.registry.now c.args.request.now
sender c = found _ _ _ _ c.read_header-h.ensures c.requires.1 c.judge_sender.ensures

pub slice_bounds-body-end : goal.slice_bounds-body-end
slice_bounds-body-end c = inside _ _ c.read_header-h.ensures c.requires.1

pub slice_bounds-judge_sender-count : goal.slice_bounds-judge_sender-count
slice_bounds-judge_sender-count c = inside _ _ c.read_header-h.ensures c.requires.1

pub slice_bounds-judge_sender-start : goal.slice_bounds-judge_sender-start
slice_bounds-judge_sender-start c = inside _ _ c.read_header-h.ensures c.requires.1

pub judge_sender-requires : goal.judge_sender-requires
judge_sender-requires c = (good_of c.args.registry.now c.requires.3).size

pub answer_nobody-requires : goal.answer_nobody-requires
answer_nobody-requires c =
    let a = c.args in
    let w = (goal.at.answer_nobody-requires c).After-judge_sender in
    let none : c.judge_sender.result ≡ Ok None = search rules in
    let passes = header_passed a.registry.now a.request.now None (sym (sender w) ∙ none) in
    let few = small _ _ c.read_header-h.ensures c.requires.2 in
    (rw c.read_header-h.ensures passes, c.requires.3, c.requires.4, c.requires.5, simp length-take (omega (arith, few)))

pub answer_named-requires : goal.answer_named-requires
answer_named-requires c =
    let a = c.args in
    let w = (goal.at.answer_named-requires c).After-judge_sender in
    let some : c.judge_sender.result ≡ Ok (Some c.in-Ok-Some.line) = search rules in
    let b = by_application a.list.now a.registry.now a.request.now c.in-Ok-Some.line (sym (sender w) ∙ some) in
    let few = small _ _ c.read_header-h.ensures c.requires.2 in
    (c.requires.3, (asks a.registry.now (request_of a.request.now) _ b.0).there, c.requires.4, c.requires.5, c.requires.6, simp length-take (omega (arith, few)))

pub returns-in-Err : goal.returns-in-Err
returns-in-Err c =
    let a = c.args in
    let w = (goal.at.returns-in-Err c).After-judge_sender in
    let r = sender_refused a.list.now a.registry.now a.request.now _ (sym (sender w) ∙ c.in-Err.is) in
    answered_refused a.list.now a.registry.now a.request.now a.journal.now _ r.0 r.1 (rw c.read_header-h.ensures at c.refuse.ensures)

pub returns-in-Ok-None : goal.returns-in-Ok-None
unfolding header_of askers_slots changed_by act_of_asker record_for
returns-in-Ok-None c =
    let a = c.args in
    let w = (goal.at.returns-in-Ok-None c).After-judge_sender in
    let none : c.judge_sender.result ≡ Ok None = search rules in
    let b = by_nobody a.list.now a.registry.now a.request.now (sym (sender w) ∙ none) in
    let e = rw (body_there a.request.now _ _ refl refl) at (rw c.read_header-h.ensures at c.answer_nobody.ensures) in
    answered a.list.now a.registry.now a.request.now _ a.journal.now a.journal.now None _ b tt refl (no_record a.journal.now _ e.1) e.0

pub returns-in-Ok-Some : goal.returns-in-Ok-Some
unfolding header_of askers_slots changed_by act_of_asker record_for
returns-in-Ok-Some c =
    let a = c.args in
    let w = (goal.at.returns-in-Ok-Some c).After-judge_sender in
    let some : c.judge_sender.result ≡ Ok (Some c.in-Ok-Some.line) = search rules in
    let b = by_application a.list.now a.registry.now a.request.now c.in-Ok-Some.line (sym (sender w) ∙ some) in
    let e = rw (body_there a.request.now _ _ refl refl) at (rw c.read_header-h.ensures at c.answer_named.ensures) in
    answered a.list.now a.registry.now a.request.now _ a.journal.now _ (Some _) _ b (asks a.registry.now (request_of a.request.now) _ b.0).there e.1 e.2 e.0
