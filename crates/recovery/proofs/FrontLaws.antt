-- The first of a list of calls, of a stream and of its requests: each is what it is without those behind it.
use mathlib.Core.Path.{◌≡◌, refl, sym, ap, ap₂, ◌∙◌}
use Prim.Native.Nat.{ℕ, zero, suc, ◌+◌, ◌≤◌}
use mathlib.Core.Bool.{true, false}
use mathlib.Core.List.{List, [], ◌∷◌, ◌++◌, append_assoc, append-nil, flatten}
use native.Mathlib.Omega.{arith}
use lib.ListN.{length, take, drop, length-append, take-append-drop}
use lib.Seq.{take-nil, take_at, drop_at, take-length, length-take-le}
use Rattle.wire.specs.Request.{request_length}
use Rattle.reading.specs.Reader.{Reading, read}
use Rattle.reading.specs.Calls.{taken_stream}
use Rattle.reading.proofs.ReaderLaws.{read_append}
use Rattle.stream.specs.Frame.{legal_start}
use Rattle.stream.specs.Rules.{Verdict, Judgement, State, rules}
use Rattle.stream.specs.Call.{reader, fresh as begun, by_rules}
use Rattle.stream.specs.Handed.{Handed, responses_in, joined_records}
use Rattle.stream.specs.Parts.{Parts, and_before, held_parts, closing_parts, parts_of, verdict_on, responses_from, responses_to}
use Rattle.stream.proofs.FrameLaws.{short, legal_start_append, request_length_append, legal_size}
use Rattle.stream.proofs.CallLaws.{rules_read}
use Rattle.stream.proofs.PartsLaws.{by_frames, parts_unfinished, parts_bad, parts_skipped, parts_whole, rules_from_stream, one_each}
use Rattle.journal.specs.Journalling.{journalling, records_in, journal_of}
use Rattle.service.specs.Call.{Memory, Call, Answer, fresh}
use Rattle.service.specs.Contract.{Ran, outcome_in}
use Rattle.service.specs.Claims.{Runs, answers_in}
use Rattle.service.proofs.CodeDemand3.{code_demand3}

-- ---- requests

-- the first requests of a stream, joined, are answered as they are
pub answered_again : (s : List ℕ) (count : ℕ) → (parts_of (flatten (take count (parts_of s).answered))).answered ≡ take count (parts_of s).answered
unfolding flatten held_parts closing_parts and_before
answered_again = by_frames (λ s. (count : ℕ) → (parts_of (flatten (take count (parts_of s).answered))).answered ≡ take count (parts_of s).answered)
    (λ s u count. rw (parts_unfinished s u) (none count))
    bad
    (λ s k count. rw (parts_skipped s k) (none count))
    whole
  where
    empty : (parts_of (flatten [])).answered ≡ []
    empty = ap (λ (p : Parts). p.answered) (parts_unfinished [] (short (omega arith)))

    none : (count : ℕ) → (parts_of (flatten (take count []))).answered ≡ take count []
    none count = ap (λ (l : List (List ℕ)). (parts_of (flatten l)).answered) (take-nil count) ∙ empty ∙ sym (take-nil count)

    bad : (s : List ℕ) → 6 ≤ length s → legal_start s ≡ false → (count : ℕ) → (parts_of (flatten (take count (parts_of s).answered))).answered ≡ take count (parts_of s).answered
    bad s h l zero = empty
    bad s h l (suc count) =
        let x : List ℕ = take 6 s in
        let long : length x ≡ 6 = length-take-le 6 s h in
        let same : x ++ flatten (take count []) ≡ x = ap (λ (t : List (List ℕ)). x ++ flatten t) (take-nil count) ∙ append-nil x in
        let legal : legal_start x ≡ false = sym (legal_start_append x (drop 6 s) (omega arith)) ∙ ap legal_start (take-append-drop 6 s) ∙ l in
        rw (parts_bad s h l)
        (ap (λ (t : List ℕ). (parts_of t).answered) same
        ∙ ap (λ (p : Parts). p.answered) (parts_bad x (omega arith) legal)
        ∙ ap₂ (λ (y : List ℕ) (t : List (List ℕ)). y ∷ t) (ap (λ (n : ℕ). take n x) (sym long) ∙ take-length x) (sym (take-nil count)))

    whole : (s : List ℕ) → legal_start s ≡ true → request_length s ≤ length s
        → ((count : ℕ) → (parts_of (flatten (take count (parts_of (drop (request_length s) s)).answered))).answered ≡ take count (parts_of (drop (request_length s) s)).answered)
        → (count : ℕ) → (parts_of (flatten (take count (parts_of s).answered))).answered ≡ take count (parts_of s).answered
    whole s l m ih zero = empty
    whole s l m ih (suc count) =
        let n : ℕ = request_length s in
        let x : List ℕ = take n s in
        let rest : List ℕ = flatten (take count (parts_of (drop n s)).answered) in
        let long : length x ≡ n = length-take-le n s m in
        let h = legal_size s l in
        let parts : x ++ drop n s ≡ s = take-append-drop n s in
        let legal : legal_start (x ++ rest) ≡ true
        = legal_start_append x rest (omega arith) ∙ sym (legal_start_append x (drop n s) (omega arith)) ∙ ap legal_start parts ∙ l in
        let size : request_length (x ++ rest) ≡ n
        = request_length_append x rest (omega arith) ∙ sym (request_length_append x (drop n s) (omega arith)) ∙ ap request_length parts in
        rw (parts_whole s l m)
        (ap (λ (p : Parts). p.answered) (parts_whole (x ++ rest) legal (omega (arith, length-append x rest)))
        ∙ ap (λ (k : ℕ). take k (x ++ rest) ∷ (parts_of (drop k (x ++ rest))).answered) size
        ∙ ap₂ (λ (y z : List ℕ). y ∷ (parts_of z).answered) (take_at x rest n long) (drop_at x rest n long)
        ∙ ap (λ (t : List (List ℕ)). x ∷ t) (ih count))

module _ {Reg Count Out : Type 0} (J : Judgement Reg Count Out) where
  -- their responses are the first
  pub responses_first : (requests : List (List ℕ)) (r : Reg) (c : Count) (count : ℕ) → take count (responses_from J r c requests) ≡ responses_from J r c (take count requests)
  unfolding responses_from
  responses_first requests r c zero = refl
  responses_first [] r c (suc count) = refl
  responses_first (request ∷ requests) r c (suc count) =
      let v : Verdict Reg Count Out = verdict_on J r c request in
      ap (λ (l : List Out). v.response ∷ l) (responses_first requests v.registry v.counts count)

  -- and what comes behind a stream adds to its responses
  pub record Behind (registry : Reg) (xs ys : List ℕ) : Type 0 where
    pub more : List Out
    pub responses : (rules J registry (xs ++ ys)).responses ≡ (rules J registry xs).responses ++ more

  pub responses_behind : (registry : Reg) (xs ys : List ℕ) → Behind registry xs ys
  unfolding by_rules
  responses_behind registry xs ys =
      let s : State Reg Count = begun J registry in
      let more : List Out = (read (reader J) (read (reader J) s xs).kept ys).events in
      record {
        more = more;
        responses = ap (λ (u : List ℕ → Reading (State Reg Count) Out). (u (xs ++ ys)).events) (sym (rules_read J registry))
            ∙ ap (λ (a : Reading (State Reg Count) Out). a.events) (read_append (reader J) s xs ys)
            ∙ ap (λ (u : List ℕ → Reading (State Reg Count) Out). (u xs).events ++ more) (rules_read J registry);
      }

-- ---- calls

runs_first : (list : List ℕ) (j : ℕ) (m : Memory) (calls : List Call) (runs : List Ran) → Runs list m calls runs → Runs list m (take j calls) (take j runs)
runs_first list zero m calls runs p = tt
runs_first list (suc j) m [] [] p = tt
runs_first list (suc j) m [] (r ∷ runs) p = absurd p
runs_first list (suc j) m (call ∷ calls) [] p = absurd p
runs_first list (suc j) m (call ∷ calls) (r ∷ runs) (e, p) = (e, runs_first list j (outcome_in r).memory calls runs p)

answers_first : (j : ℕ) (runs : List Ran) → answers_in (take j runs) ≡ take j (answers_in runs)
answers_first zero runs = refl
answers_first (suc j) [] = refl
answers_first (suc j) (r ∷ runs) = ap (λ (l : List Answer). (outcome_in r).answer ∷ l) (answers_first j runs)

none_taken : (calls : List Call) → (let none : List Answer = [] in taken_stream calls none ≡ [])
unfolding taken_stream
none_taken [] = refl
none_taken (call ∷ calls) = refl

taken_first : (j : ℕ) (calls : List Call) (answers : List Answer)
    → taken_stream calls answers ≡ taken_stream (take j calls) (take j answers) ++ taken_stream (drop j calls) (drop j answers)
unfolding taken_stream
taken_first zero calls answers = refl
taken_first (suc j) [] answers = refl
taken_first (suc j) (call ∷ calls) [] = sym (none_taken (drop j calls))
taken_first (suc j) (call ∷ calls) (a ∷ answers) =
    let x : List ℕ = take a.taken call.chunk in
    ap (λ (l : List ℕ). x ++ l) (taken_first j calls answers) ∙ sym (append_assoc x (taken_stream (take j calls) (take j answers)) (taken_stream (drop j calls) (drop j answers)))

-- what the first calls answered and recorded are the first responses of the rules, and their records
module _ (list registry : List ℕ) (calls : List Call) (runs : List Ran) (p : Runs list (fresh registry) calls runs) (sent : ℕ) where
  abbrev answers : List Answer
  answers = answers_in runs

  abbrev stream : List ℕ
  stream = taken_stream (take sent calls) (take sent answers)

  abbrev front : List Handed
  front = (rules (journalling list) registry stream).responses

  pub record Sent : Type 0 where
    pub more : List Handed
    pub responses : (rules (journalling list) registry (taken_stream calls answers)).responses ≡ front ++ more
    pub count : length (responses_in (take sent answers)) ≡ length front
    pub records : joined_records (take sent answers) ≡ records_in front

  pub sent_first : Sent
  unfolding journal_of responses_to
  sent_first =
      let f = (code_demand3 list registry).follows (take sent calls) (take sent runs) (runs_first list sent (fresh registry) calls runs p) in
      let same : answers_in (take sent runs) ≡ take sent answers = answers_first sent runs in
      let behind = responses_behind (journalling list) registry stream (taken_stream (drop sent calls) (drop sent answers)) in
      record {
        more = behind.more;
        responses = ap (λ (s : List ℕ). (rules (journalling list) registry s).responses) (taken_first sent calls answers) ∙ behind.responses;
        count = ap (λ (a : List Answer). length (responses_in a)) (sym same)
            ∙ f.one_each
            ∙ ap (λ (a : List Answer). length (parts_of (taken_stream (take sent calls) a)).answered) same
            ∙ sym (ap length (rules_from_stream (journalling list) registry stream).responses ∙ one_each (journalling list) registry (parts_of stream).answered);
        records = ap (λ (a : List Answer). joined_records a) (sym same)
            ∙ f.records
            ∙ ap (λ (a : List Answer). journal_of list registry (taken_stream (take sent calls) a)) same;
      }
