-- ANY LIST OF STEPS: what is known of both streams is kept by every step, and at the end it gives the definition's verdict.
use Rattle.std.proofs.Common.{Some}
use mathlib.Core.Path.{◌≡◌, refl, sym, ap, ◌∙◌, subst}
use Prim.Native.Nat.{ℕ, ◌+◌, ◌≤◌, ◌<◌}
use mathlib.Core.Bool.{Bool, true, false, true≢false}
use mathlib.Core.List.{List, [], ◌∷◌, ◌++◌, flatten, append_assoc, append-nil}
use native.Mathlib.Omega.{arith}
use lib.ListN.{length, take, drop, length-append}
use lib.Seq.{length-take-le}
use lib.Dec.{eqb}
use Rattle.reading.specs.Calls.{joined_out, taken_stream}
use Rattle.reading.specs.code.Calls.{calls_on}
use Rattle.reading.specs.Buffer.{Written, as_one}
use Rattle.reading.proofs.ReaderLaws.{decide}
use Rattle.stream.specs.Rules.{rules}
use Rattle.stream.specs.Handed.{Given, responses_in}
use Rattle.stream.proofs.PartsLaws.{rules_from_stream}
use Rattle.judgement.specs.Judgement.{judgement}
use Rattle.service.specs.Call as service
use Rattle.service.specs.Call.{Call, CallOutcome, CallsOutcome, fresh, memory_of, call_outcome}
use Rattle.service.specs.code.Calls.{calls_outcome}
use Rattle.service.specs.Contract.{call_with}
use Rattle.service.proofs.Demand3.{demand3}
use Rattle.audit.specs.Audit.{alike, compared, audit}
use Rattle.audit.specs.Step.{Memory, Chunks, StepOutcome, progress_with, begun, is_pending, left_of, is_found, compare_on, after_call, call_on, step_outcome, end_outcome}
use Rattle.audit.specs.Claims.{fresh_audit, StepRuns, left_after, taken_requests, left_over, Beginning, CutFrom, AnySteps}
use Rattle.audit.specs.declared.Progress.{Progress}
use Rattle.audit.proofs.StepLaws.{Good, well_formed_lem, length_left, step_compares, step_calls}
use Rattle.audit.proofs.CalledLaws.{out_snoc, one_more, takes_more, Writes, writes}
use Rattle.audit.proofs.PlaceLaws.{Where, between, inside, found, verdict_is, compared_where, called_where, pending_inside, pending_right, stays_wrong, stays, next, positive}
use Rattle.audit.proofs.AlikeLaws.{alike_left}

module _ (list registry captured : List ℕ) where
  -- the calls that the steps made
  abbrev run : List Call → CallsOutcome
  run calls = calls_outcome list (fresh registry) calls

  abbrev requests : List Call → List ℕ
  requests calls = taken_stream calls (run calls).answers

  abbrev responses : List Call → List (List ℕ)
  responses calls = responses_in (run calls).answers

  record At (rest : List ℕ) (calls : List Call) (m : Memory) : Type 0 where
    service : m.service ≡ (run calls).memory
    fine : Good m.progress m.pending
    numbered : m.progress.number ≤ length (requests calls)
    place : Where (responses calls) captured rest m.progress m.pending

  -- after a step that took so many bytes of each
  record Then (calls : List Call) (chunk rest : List ℕ) (n k : ℕ) (m : Memory) : Type 0 where
    made : List Call
    more : requests made ≡ requests calls ++ take n chunk
    at : At (drop k rest) made m

  -- ---- bytes compared

  module _ (rest : List ℕ) (calls : List Call) (m : Memory) (a : At rest calls m) (c : Chunks) (b : Beginning rest c) where
    comparing : is_pending m.progress ≡ true → Where (responses calls) captured rest m.progress m.pending
        → Then calls c.requests rest (compare_on m c).requests (compare_on m c).responses (compare_on m c).memory
    unfolding compare_on
    comparing now (between w s k e) = absurd (omega (arith, pending_inside m.progress now, s))
    comparing now (found w before response after r k h e z) = absurd (true≢false (sym w ∙ pending_right m.progress now))
    comparing now (inside w s before r k e) =
        let p = m.progress in
        let left = left_of p m.pending in
        record {
          made = calls;
          more = sym (append-nil (requests calls));
          at = record {
            service = a.service;
            fine = record {
              placed = omega (arith, length_left p m.pending a.fine, alike_left (left_of p m.pending) c.responses, a.fine.placed);
              held = a.fine.held;
              short = a.fine.short;
              numbered = a.fine.numbered;
            };
            numbered = a.numbered;
            place = compared_where p m.pending a.fine (responses calls) captured rest c.responses b.later c.is_last b.is b.last before r k e (is_found (alike left c.responses) (length left) (length c.responses) c.is_last) refl;
          };
        }

  -- ---- a call

  module _ (rest : List ℕ) (calls : List Call) (m : Memory) (a : At rest calls m) (c : Chunks) where
    abbrev call : Call
    call = call_with c.requests m.pending c.journal

    abbrev o : CallOutcome
    o = call_outcome list m.service call

    abbrev w : Written
    w = o.answer.given.response

    abbrev made : List Call
    made = calls ++ (call ∷ [])

    ran : run made ≡ record { answers = (run calls).answers ++ (o.answer ∷ []); memory = o.memory }
    ran =
        one_more list (fresh registry) calls call
        ∙ ap (λ (x : service.Memory). record { answers = (run calls).answers ++ ((call_outcome list x call).answer ∷ []); memory = (call_outcome list x call).memory }) (sym a.service)

    more : requests made ≡ requests calls ++ take o.answer.taken c.requests
    more =
        ap (λ (x : CallsOutcome). taken_stream made x.answers) (one_more list (fresh registry) calls call)
        ∙ takes_more list (fresh registry) calls call
        ∙ ap (λ (x : service.Memory). requests calls ++ take (call_outcome list x call).answer.taken c.requests) (sym a.service)

    given : responses made ≡ responses calls ++ as_one w
    given = ap (λ (x : CallsOutcome). responses_in x.answers) ran ∙ out_snoc (λ (g : Given). as_one g.response) (run calls).answers o.answer

    counted : m.service.counters.taken ≡ length (requests calls)
    counted = ap (λ (x : service.Memory). x.counters.taken) a.service ∙ ((demand3 list registry).follows calls).taken

    longer : length (requests made) ≡ length (requests calls) + o.answer.taken
    longer =
        ap length more ∙ length-append (requests calls) (take o.answer.taken c.requests)
        ∙ ap (λ (n : ℕ). length (requests calls) + n) (length-take-le o.answer.taken c.requests (writes list m.service call).fits)

    -- the state after it is well formed, and its number is no more than the bytes of the requests
    record Fine (q : Progress) : Type 0 where
      good : Good q w.buffer
      numbered : q.number ≤ length (requests made)

    fine_after : Fine (after_call m.progress w.count)
    fine_after = decide m.progress.is_wrong
        (λ e. subst Fine (stays_wrong m.progress w.count e) same)
        (λ e. decide (eqb w.count 0)
        (λ z. subst Fine (stays m.progress w.count e z) same)
        (λ z. subst Fine (next m.progress w.count e z) (fresh_one (positive w.count z))))
      where
        x : Writes m.service call o
        x = writes list m.service call

        same : Fine m.progress
        same = record {
          good = record { placed = a.fine.placed; held = omega (arith, a.fine.held, x.kept); short = a.fine.short; numbered = a.fine.numbered };
          numbered = omega (arith, a.numbered, longer);
        }

        fresh_one : 0 < w.count → Fine (progress_with (m.progress.number + 1) w.count 0 false)
        fresh_one h = record {
          good = record {
            placed = omega arith;
            held = omega (arith, x.short, x.room h, x.kept);
            short = x.short;
            numbered = omega (arith, a.numbered, counted, x.takes h, x.low h);
          };
          numbered = omega (arith, a.numbered, longer, x.takes h);
        }

    calling : is_pending m.progress ≡ false → Then calls c.requests rest (call_on list m c).requests (call_on list m c).responses (call_on list m c).memory
    unfolding call_on
    calling idle = record {
      made = made;
      more = more;
      at = record {
        service = sym (ap (λ (x : CallsOutcome). x.memory) ran);
        fine = fine_after.good;
        numbered = fine_after.numbered;
        place = subst (λ (x : List (List ℕ)). Where x captured rest (after_call m.progress w.count) w.buffer) (sym given)
            (called_where m.progress m.pending (responses calls) captured rest idle w a.place);
      };
    }

  -- ---- a step, and any list of them

  step_then : (rest : List ℕ) (calls : List Call) (m : Memory) → At rest calls m → (c : Chunks) → Beginning rest c
      → (let o = step_outcome list m c in Then calls c.requests rest o.requests o.responses o.memory)
  step_then rest calls m a c b =
      let e = well_formed_lem m.progress m.pending a.fine in
      decide (is_pending m.progress)
      (λ now. subst (λ (o : StepOutcome). Then calls c.requests rest o.requests o.responses o.memory) (sym (step_compares list m c e now)) (comparing rest calls m a c b now a.place))
      (λ idle. subst (λ (o : StepOutcome). Then calls c.requests rest o.requests o.responses o.memory) (sym (step_calls list m c e idle)) (calling rest calls m a c idle))

  record Ended (rest : List ℕ) (calls : List Call) (taken : List ℕ) (m : Memory) : Type 0 where
    made : List Call
    more : requests made ≡ requests calls ++ taken
    at : At rest made m

  steps : (chunks : List Chunks) (runs : List StepOutcome) (rest : List ℕ) (calls : List Call) (m : Memory) → At rest calls m → StepRuns list m chunks runs → CutFrom rest chunks runs
      → Ended (left_over rest runs) calls (taken_requests chunks runs) (left_after m runs)
  unfolding left_over taken_requests
  steps [] [] rest calls m a r b = record { made = calls; more = sym (append-nil (requests calls)); at = a }
  steps [] (o ∷ runs) rest calls m a r b = absurd r
  steps (c ∷ chunks) [] rest calls m a r b = absurd r
  steps (c ∷ chunks) (o ∷ runs) rest calls m a r b =
      let t = subst (λ (x : StepOutcome). Then calls c.requests rest x.requests x.responses x.memory) (sym r.0) (step_then rest calls m a c b.0) in
      let s = steps chunks runs (drop o.responses rest) t.made o.memory t.at r.1 b.1 in
      record {
        made = s.made;
        more =
            s.more ∙ ap (λ (x : List ℕ). x ++ taken_requests chunks runs) t.more
            ∙ append_assoc (requests calls) (take o.requests c.requests) (taken_requests chunks runs);
        at = s.at;
      }

  -- ---- the beginning and the end

  begins : (pending : List ℕ) → At captured [] (fresh_audit registry pending)
  unfolding calls_outcome calls_on taken_stream joined_out flatten begun
  begins pending = record {
    service = refl;
    fine = record { placed = omega arith; held = omega arith; short = omega arith; numbered = omega arith };
    numbered = omega arith;
    place = between refl refl refl refl;
  }

  rules_responses : (calls : List Call) → (rules (judgement list) registry (requests calls)).responses ≡ responses calls
  rules_responses calls = (rules_from_stream (judgement list) registry (requests calls)).responses ∙ sym ((demand3 list registry).follows calls).each

  ends : (rest : List ℕ) (calls : List Call) (m : Memory) → At rest calls m → end_outcome m.progress m.pending rest ≡ Some (audit list registry (requests calls) captured)
  unfolding end_outcome audit
  ends rest calls m a =
      rw (well_formed_lem m.progress m.pending a.fine)
      (ap Some (verdict_is m.progress m.pending a.fine (responses calls) captured rest a.place
      ∙ ap (λ (x : List (List ℕ)). compared 1 x captured) (sym (rules_responses calls))))

pub any_steps : AnySteps
unfolding taken_stream
any_steps list registry pending captured chunks runs r b =
    let e = steps list registry captured chunks runs captured [] (fresh_audit registry pending) (begins list registry captured pending) r b in
    let m = left_after (fresh_audit registry pending) runs in
    record {
      verdict =
          ends list registry captured (left_over captured runs) e.made m e.at ∙ ap (λ (x : List ℕ). Some (audit list registry x captured)) e.more;
      memory =
          e.at.service ∙ ((demand3 list registry).follows e.made).memory ∙ ap (λ (x : List ℕ). memory_of (rules (judgement list) registry x).state) e.more;
    }
