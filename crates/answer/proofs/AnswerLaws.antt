-- From the code's chain of tests to the judgement of a request: what is answered at each way out is what `judgement` says.
use Rattle.std.proofs.Common.{Option, Some, None, Result as Tested, Ok, Err}
use mathlib.Core.Path.{◌≡◌, refl, sym, ap, ap₂, subst, ◌∙◌}
use mathlib.Core.Bool.{Bool, true, false, and-true, and-false}
use mathlib.Core.List.{List, [], ◌++◌}
use Prim.Native.Nat.{ℕ, ◌+◌, ◌-◌, ◌≤◌, ◌<◌}
use native.Mathlib.Nat.{add-sub_cancel_left}
use native.Mathlib.Omega.{arith}
use borrow.Author.Tests.{eq-eqb, ne_eqb, eqb-true, eqb-false, ltb-false, lt-ltb, le-ltb, not-false}
use lib.ListN.{length, take, drop}
use lib.Dec.{ltb, eqb}
use Rattle.wire.specs.Choice.{when◌then◌else◌, first_of}
use Rattle.wire.specs.Lists.{one_of}
use Rattle.wire.specs.Request.{content_length, auth_length, header_length, request_length, Request, request_of}
use Rattle.wire.specs.code.Header.{header_of}
use Rattle.wire.specs.Response.{response_bytes}
use Rattle.wire.specs.code.Wrote.{Wrote}
use Rattle.wire.specs.declared.header.Header.{Header}
use Rattle.wire.proofs.BufferLaws.{wrote_none}
use Rattle.wire.proofs.TestLaws.{first_has, none_at, first_before, first_behind, or_left}
use Rattle.stream.specs.Frame.{content_most, oversized}
use Rattle.stream.specs.Handed.{handing}
use Rattle.registry.specs.Slots.{Entry}
use Rattle.registry.specs.Registry.{application_named, slots_of, changed}
use Rattle.registry.specs.declared.Line.{Line}
use Rattle.shipped.specs.Shipped.{keys_in}
use Rattle.judgement.specs.Status.{status_number}
use Rattle.messages.specs.Opcodes.{core_opcodes, opcodes_of}
use Rattle.judgement.specs.Operations.{Result, refuse, operated}
use Rattle.messages.specs.Formats.{format_of, format_for, content_type_of}
use Rattle.messages.proofs.FormatsLaws.{nothing_bytes}
use Rattle.judgement.specs.Counts.{Counts, count_refused, count}
use Rattle.judgement.specs.Judgement.{application_of, refusals, askers_slots, result_of, changed_by, verdict_of, refused_early, oversized_status, judgement}
use Rattle.judgement.specs.code.Decided.{header_test_count, header_tests, named_or, auth_of, output_bytes, result_in, Decided, AskerBelow}
use Rattle.judgement.specs.declared.Status.{Status}
use Rattle.judgement.specs.declared.Status.TheVariants.{AuthenticationError, NotAuthenticated, BodySizeExceedsLimit}
use Rattle.judgement.specs.declared.Decision.{Decision}
use Rattle.journal.specs.Record.{Act}
use Rattle.journal.specs.Journalling.{record_for, served_act, recorded_for, journalling}
use Rattle.journal.specs.code.Written.{act_of_asker}
use Rattle.journal.proofs.ChangeLaws.{act_changed}
use Rattle.answer.specs.code.Answers.{AnsweredBy, PassedHeader, sender_of, result_for_nobody, ResultAnswered, RefusedWith}
use Rattle.answer.specs.declared.Answered.{Answered}

-- ---- what the tests of a header say

-- no test's status is Success
pub header_status : (h : Header) (status : Status) → first_of (header_tests h) ≡ Some status → 0 < status_number status
unfolding header_tests refusals status_number
header_status h status e =
    first_has (λ s. 0 < status_number s) (header_tests h)
    (omega arith, (omega arith, (omega arith, (omega arith, (omega arith, (omega arith, (omega arith, tt))))))) status e

module _ (h : Header) (passed : PassedHeader h) where
  of_provider : one_of (opcodes_of h.provider) h.opcode ≡ true
  unfolding header_tests refusals
  of_provider = not-false _ (none_at (header_tests h) 5 AuthenticationError passed)

  pub core_opcode : h.provider ≡ 0 → one_of core_opcodes h.opcode ≡ true
  unfolding opcodes_of
  core_opcode e = rw (eq-eqb h.provider 0 e) at of_provider

  pub provider_small : h.provider ≤ 1
  unfolding header_tests refusals
  provider_small = ltb-false _ _ (none_at (header_tests h) 4 AuthenticationError passed)

  auth_type_small : h.auth_type ≤ 1
  unfolding header_tests refusals
  auth_type_small = ltb-false _ _ (none_at (header_tests h) 6 AuthenticationError passed)

-- ---- the judgement's tests: those of the header, and then these

abbrev auth_tests : (registry : List ℕ) → Request → List (Bool × Status)
auth_tests registry q = drop header_test_count (refusals registry q)

-- ---- what the auth bytes decide

module _ (registry : List ℕ) (q : Request) where
  -- the application that asks, and which of these tests applies
  record Told (application : Option Line) (test : Option Status) : Type 0 where
    asks : application_of registry q ≡ application
    first : first_of (auth_tests registry q) ≡ test

  abbrev ToldBy : Tested (Option Line) Status → Type 0
  ToldBy (Err status) = first_of (auth_tests registry q) ≡ Some status
  ToldBy (Ok None) = Told None (when eqb q.provider 1 then Some NotAuthenticated else None)
  ToldBy (Ok (Some line)) = Told (Some line) None

  told : q.auth_type ≤ 1 → ToldBy (auth_of q.auth_type q.auth (application_named registry q.auth))
  unfolding auth_of named_or first_of refusals application_of
  told small = go (eqb q.auth_type 0) refl (ltb 0 (length q.auth)) refl (application_named registry q.auth) refl
    where
      go :
          (s : Bool) → eqb q.auth_type 0 ≡ s →
          (t : Bool) → ltb 0 (length q.auth) ≡ t →
          (o : Option Line) → application_named registry q.auth ≡ o →
          ToldBy (auth_of q.auth_type q.auth (application_named registry q.auth))
      go true p true r o w = rw (p, r) (rw (p, r))
      go true p false r o w =
          let zero : q.auth_type ≡ 0 = eqb-true q.auth_type 0 p in
          rw (p, r) (record { asks = rw p; first = rw (zero, r, and-true) })
      go false p t r None w =
          let one : q.auth_type ≡ 1 = omega (arith, eqb-false q.auth_type 0 p) in
          rw (p, w) (rw (one, w))
      go false p t r (Some line) w = rw (p, w) (record { asks = rw (p, w); first = rw (p, w, and-false (eqb q.auth_type 1), and-false (eqb q.provider 1)) })

-- the auth bytes are not refused with Success
auth_status : (auth_type : ℕ) (auth : List ℕ) (named : Option Line) (status : Status) → auth_of auth_type auth named ≡ Err status → 0 < status_number status
unfolding auth_of named_or status_number
auth_status auth_type auth named status e = go (eqb auth_type 0) refl (ltb 0 (length auth)) refl named refl
  where
    error : AuthenticationError ≡ status → 0 < status_number status
    error s = rw (← s) (omega arith)

    go : (s : Bool) → eqb auth_type 0 ≡ s → (t : Bool) → ltb 0 (length auth) ≡ t → (o : Option Line) → named ≡ o → 0 < status_number status
    go true p true r o w = error (let x = rw (p, r) at e in cc)
    go true p false r o w = absurd (let x = rw (p, r) at e in cc)
    go false p t r None w = error (let x = rw (p, w) at e in cc)
    go false p t r (Some line) w = absurd (let x = rw (p, w) at e in cc)

-- ---- what comes of a request, by what the code found

-- what the auth bytes of a request say
abbrev pub auth_found : (registry bytes : List ℕ) → Tested (Option Line) Status
auth_found registry bytes = auth_of (request_of bytes).auth_type (request_of bytes).auth (application_named registry (request_of bytes).auth)

-- who asks, as the code finds it
abbrev pub sender_found : (registry bytes : List ℕ) → Tested (Option Line) Status
sender_found registry bytes = sender_of (first_of (header_tests (header_of bytes))) (auth_found registry bytes)

-- the tests of the header and of the auth bytes have passed
record Passed (registry bytes : List ℕ) (asker : Option Line) : Type 0 where
  header : PassedHeader (header_of bytes)
  auth : auth_found registry bytes ≡ Ok asker

passed_by : (registry bytes : List ℕ) (asker : Option Line) → sender_found registry bytes ≡ Ok asker → Passed registry bytes asker
passed_by registry bytes asker e = go (first_of (header_tests (header_of bytes))) refl
  where
    go : (o : Option Status) → first_of (header_tests (header_of bytes)) ≡ o → Passed registry bytes asker
    go None w = record { header = w; auth = rw w at e }
    go (Some status) w = absurd (let x = rw w at e in cc)

pub header_passed : (registry bytes : List ℕ) (asker : Option Line) → sender_found registry bytes ≡ Ok asker → PassedHeader (header_of bytes)
header_passed registry bytes asker e = (passed_by registry bytes asker e).header

module _ (list registry bytes : List ℕ) where
  all_tests : refusals registry (request_of bytes) ≡ header_tests (header_of bytes) ++ auth_tests registry (request_of bytes)
  unfolding refusals header_tests header_of
  all_tests = refl

  refused_result : (status : Status) → first_of (refusals registry (request_of bytes)) ≡ Some status → result_of list registry (request_of bytes) ≡ refuse status
  unfolding result_of
  refused_result status e = rw (e, result_of)

  pub header_refused : (status : Status) → first_of (header_tests (header_of bytes)) ≡ Some status → result_of list registry (request_of bytes) ≡ refuse status
  header_refused status e = refused_result status (ap first_of all_tests ∙ first_before (header_tests (header_of bytes)) _ status e)

  module _ (passed : PassedHeader (header_of bytes)) where
    later_tests : first_of (refusals registry (request_of bytes)) ≡ first_of (auth_tests registry (request_of bytes))
    later_tests = ap first_of all_tests ∙ first_behind (header_tests (header_of bytes)) _ passed

    operated_result : first_of (auth_tests registry (request_of bytes)) ≡ None
        → result_of list registry (request_of bytes)
        ≡ operated (format_of (format_for (request_of bytes).content_type)) (request_of bytes).opcode (request_of bytes).body (askers_slots registry (application_of registry (request_of bytes))) (keys_in list)
    unfolding result_of
    operated_result e = rw (later_tests ∙ e, result_of)

    told_found : ToldBy registry (request_of bytes) (auth_found registry bytes)
    unfolding header_of
    told_found = told registry (request_of bytes) (auth_type_small (header_of bytes) passed)

    pub auth_refused : (status : Status) → auth_found registry bytes ≡ Err status → result_of list registry (request_of bytes) ≡ refuse status
    auth_refused status e = refused_result status (later_tests ∙ subst (ToldBy registry (request_of bytes)) e told_found)

    nobody : auth_found registry bytes ≡ Ok None
        → (application_of registry (request_of bytes) ≡ None) × (result_of list registry (request_of bytes) ≡ result_for_nobody (header_of bytes) (request_of bytes).body list)
    unfolding result_for_nobody header_of askers_slots
    nobody e =
        let t : Told registry (request_of bytes) None _ = subst (ToldBy registry (request_of bytes)) e told_found in
        (t.asks, go t (eqb (request_of bytes).provider 1) refl)
      where
        go :
            Told registry (request_of bytes) None (when eqb (request_of bytes).provider 1 then Some NotAuthenticated else None) →
            (b : Bool) → eqb (request_of bytes).provider 1 ≡ b →
            result_of list registry (request_of bytes) ≡ result_for_nobody (header_of bytes) (request_of bytes).body list
        go t true p = rw p (refused_result NotAuthenticated (later_tests ∙ rw p at t.first))
        go t false p = rw p (rw t.asks at (operated_result (rw p at t.first)))

    application : (line : Line) → auth_found registry bytes ≡ Ok (Some line)
        → (application_of registry (request_of bytes) ≡ Some line)
        × (result_of list registry (request_of bytes) ≡ operated (format_of (format_for (request_of bytes).content_type)) (request_of bytes).opcode (request_of bytes).body (slots_of registry line) (keys_in list))
    unfolding askers_slots
    application line e =
        let t : Told registry (request_of bytes) (Some line) None = subst (ToldBy registry (request_of bytes)) e told_found in
        (t.asks, rw t.asks at (operated_result t.first))

  -- by who asks, or the first test that applies
  pub sender_refused : (status : Status) → sender_found registry bytes ≡ Err status → (result_of list registry (request_of bytes) ≡ refuse status) × (0 < status_number status)
  sender_refused status e = go (first_of (header_tests (header_of bytes))) refl
    where
      go : (o : Option Status) → first_of (header_tests (header_of bytes)) ≡ o → (result_of list registry (request_of bytes) ≡ refuse status) × (0 < status_number status)
      go None w = let x = rw w at e in (auth_refused w status x, auth_status _ _ _ status x)
      go (Some s) w =
          let same : s ≡ status = (let x = rw w at e in cc) in
          let first = w ∙ ap Some same in
          (header_refused status first, header_status (header_of bytes) status first)

  pub by_nobody : sender_found registry bytes ≡ Ok None
      → (application_of registry (request_of bytes) ≡ None) × (result_of list registry (request_of bytes) ≡ result_for_nobody (header_of bytes) (request_of bytes).body list)
  by_nobody e = let p = passed_by registry bytes None e in nobody p.header p.auth

  pub by_application : (line : Line) → sender_found registry bytes ≡ Ok (Some line)
      → (application_of registry (request_of bytes) ≡ Some line)
      × (result_of list registry (request_of bytes) ≡ operated (format_of (format_for (request_of bytes).content_type)) (request_of bytes).opcode (request_of bytes).body (slots_of registry line) (keys_in list))
  by_application line e = let p = passed_by registry bytes (Some line) e in application p.header line p.auth

-- ---- the parts of a whole request, as the code lends them

module _ (request : List ℕ) where
  pub body_there : (start end : ℕ) → start ≡ header_length request → end ≡ start + content_length request
      → take (end - start) (drop start request) ≡ (request_of request).body
  unfolding request_of
  body_there start end s e = rw (e, add-sub_cancel_left, s)

  pub auth_there : (end : ℕ) → length request ≡ request_length request → end ≡ header_length request + content_length request
      → take (length request - end) (drop end request) ≡ (request_of request).auth
  unfolding request_of
  auth_there end long e =
      let n : length request - end ≡ auth_length request = omega arith in
      rw (n, e)

  -- its content fits the rules
  pub content_small : oversized request ≡ false → content_length request ≤ content_most
  unfolding oversized
  content_small e = ltb-false content_most (content_length request) (or_left (ltb content_most (content_length request)) _ e)

-- ---- an operation that was carried out

-- its response was written: `n` bytes
pub decided_answered : {slots : List Entry} {list body : List ℕ} {x : Result} {d : Decision} {before after : List ℕ} {n : ℕ} (h : Header) (who : Option Line)
    → Decided slots list body x d
    → Wrote (response_bytes h.provider h.session (content_type_of (format_for h.accept_type)) h.opcode (status_number d.status) (output_bytes (format_of (format_for h.accept_type)) slots list d.output)) before after n
    → (recorded : ℕ) → ResultAnswered h x who before after (record { status = d.status; asker = who; written = n; recorded = recorded })
unfolding result_in
decided_answered h who e w recorded = record { status = rw (← e.result); asker = refl; response = rw (← e.result) w }

-- ---- what was answered is what the judgement says

pub oversized_content : (header : List ℕ) → content_most < content_length header → oversized_status header ≡ BodySizeExceedsLimit
unfolding oversized_status
oversized_content header h = rw (lt-ltb content_most (content_length header) h)

pub oversized_auth : (header : List ℕ) → content_length header ≤ content_most → oversized_status header ≡ AuthenticationError
unfolding oversized_status
oversized_auth header h = rw (le-ltb content_most (content_length header) h)

-- whoever asks, a request that is refused counts by its status alone
refused_count_lem : (c : Counts) (application : Option Line) (status : Status) → 0 < status_number status → count c application status ≡ count_refused c status
unfolding count
refused_count_lem c application status h = rw (ne_eqb (status_number status) 0 (λ e. let x : ⊥ = omega arith in x))

refused_kept : (registry : List ℕ) (application : Option Line) (status : Status) → changed_by registry application (refuse status) ≡ registry
unfolding changed_by changed refuse
refused_kept registry None status = refl
refused_kept registry (Some line) status = refl

-- nothing is written of no record
pub no_record : (journal : List ℕ) (n : ℕ) → n ≡ 0 → Wrote [] journal journal n
no_record journal n e = subst (λ (k : ℕ). Wrote [] journal journal k) (sym e) (wrote_none journal)

-- a request that is refused has none
refused_act : (list registry : List ℕ) (q : Request) (status : Status) → result_of list registry q ≡ refuse status → 0 < status_number status
    → record_for (served_act list registry q) ≡ []
unfolding served_act refuse record_for
refused_act list registry q status e h = rw (e, ne_eqb (status_number status) 0 (λ z. let x : ⊥ = omega arith in x), served_act)

module _ {before after : List ℕ} {r : Answered} where
  -- before the last byte, or at the wrong start
  pub answered_early : (provider session opcode : ℕ) (status : Status) → 0 < status_number status
      → RefusedWith provider session 1 opcode status before after r
      → (registry journal : List ℕ) → AnsweredBy (λ c. handing [] (refused_early registry c provider session opcode status)) registry before after journal journal r
  unfolding refused_early content_type_of
  answered_early provider session opcode status h w registry journal = record {
    response = w.2;
    recorded = no_record journal r.recorded w.3;
    kept = refl;
    counts = λ c. rw w.0 (refused_count_lem c _ status h);
    asker = rw w.1 tt;
  }

  pub answered_oversized : (header : List ℕ) (status : Status) → oversized_status header ≡ status → 0 < status_number status
      → RefusedWith (header_of header).provider (header_of header).session 1 (header_of header).opcode status before after r
      → (list registry journal : List ℕ) → AnsweredBy (λ c. (journalling list).on_oversized registry c header) registry before after journal journal r
  unfolding journalling judgement header_of
  answered_oversized header status e h w list registry journal = rw e (answered_early _ _ _ status h w registry journal)

  module _ (list registry request : List ℕ) where
    pub answered_refused : (journal : List ℕ) (status : Status) → result_of list registry (request_of request) ≡ refuse status → 0 < status_number status
        → RefusedWith (header_of request).provider (header_of request).session (content_type_of (format_for (header_of request).accept_type)) (header_of request).opcode status before after r
        → AnsweredBy (λ c. (journalling list).on_request registry c request) registry before after journal journal r
    unfolding journalling recorded_for judgement verdict_of header_of refuse
    answered_refused journal status e h w = record {
      response = rw (e, nothing_bytes (format_for (header_of request).accept_type)) w.2;
      recorded = subst (λ (x : List ℕ). Wrote x journal journal r.recorded) (sym (refused_act list registry (request_of request) status e h)) (no_record journal r.recorded w.3);
      kept = rw e (sym (refused_kept registry (application_of registry (request_of request)) status));
      counts = λ c. rw (e, w.0) (refused_count_lem c _ status h ∙ sym (refused_count_lem c _ status h));
      asker = rw w.1 tt;
    }

    pub answered : (registry' journal journal' : List ℕ) (who : Option Line) (x : Result)
        → (application_of registry (request_of request) ≡ who) × (result_of list registry (request_of request) ≡ x)
        → AskerBelow who → registry' ≡ changed_by registry who x
        → Wrote (record_for (act_of_asker (askers_slots registry who) who x.change)) journal journal' r.recorded
        → ResultAnswered (header_of request) x who before after r
        → AnsweredBy (λ c. (journalling list).on_request registry c request) registry' before after journal journal' r
    unfolding journalling recorded_for judgement verdict_of header_of
    answered registry' journal journal' who x e below kept wrote a = record {
      response = rw e.1 a.response;
      recorded = subst (λ (o : Option Act). Wrote (record_for o) journal journal' r.recorded)
          (sym (act_changed list registry (request_of request)
          ∙ ap₂ (λ (o : Option Line) (y : Result). act_of_asker (askers_slots registry o) o y.change) e.0 e.1))
          wrote;
      kept = rw (e.0, e.1) kept;
      counts = λ c. rw (e.0, e.1, a.asker, a.status);
      asker = rw a.asker below;
    }
