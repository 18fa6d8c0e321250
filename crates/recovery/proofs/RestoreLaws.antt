-- RESTORE: the records of any calls of the code, read back in any chunks, give the registry that they left, with use counts 0;
-- and NOTHING ACKNOWLEDGED IS LOST.
use Rattle.std.proofs.Common.{Option, Some, None, Ok}
use mathlib.Core.Path.{◌≡◌, refl, sym, ap, ap₂, ◌∙◌, subst}
use mathlib.Core.Bool.{Bool, true, false}
use mathlib.Core.List.{List, [], ◌∷◌, ◌++◌, append_assoc, flatten}
use Prim.Native.Nat.{ℕ, zero, suc, ◌+◌, ◌-◌, ◌≤◌, ◌<◌}
use native.Mathlib.Omega.{arith}
use borrow.Author.Tests.{leb-true, leb-false}
use lib.ListN.{length, take, drop, length-append, length-drop, take-append-drop}
use lib.Seq.{take-nil, take-append-le, take-append-add, take_at}
use lib.Dec.{leb, eqb}
use Rattle.wire.specs.Choice.{when◌then◌else◌}
use Rattle.wire.specs.Lists.{all}
use Rattle.wire.proofs.NumberLaws.{is_byte}
use Rattle.wire.proofs.ListLaws.{all_append, all_take}
use Rattle.reading.specs.Reader.{read}
use Rattle.reading.specs.Calls.{taken_stream}
use Rattle.reading.proofs.ReaderLaws.{decide}
use Rattle.registry.specs.Registry.{registry_size, registry_of}
use Rattle.registry.specs.WellFormed.{well_formed_registry}
use Rattle.registry.proofs.KeylessLaws.{LegalNames, registry_good}
use Rattle.registry.proofs.WellFormedLaws.{good_of}
use Rattle.roster.specs.Roster.{Roster, applications, faulty, roster_of, RosterOutcome, roster_into, load_roster}
use Rattle.roster.specs.declared.RosterFault.TheVariants.{WrongMemorySize}
use Rattle.roster.proofs.RosterLaws.{roster_legal}
use Rattle.stream.specs.Rules.{Verdict, rules}
use Rattle.stream.specs.Handed.{Handed, responses_in, joined_records}
use Rattle.stream.specs.Parts.{parts_of, verdict_on, responses_from, responses_to}
use Rattle.stream.proofs.PartsLaws.{registry_from, rules_from_stream, rules_registry, one_each}
use Rattle.judgement.specs.Counts.{Counts, no_counts}
use Rattle.judgement.specs.Judgement.{judgement}
use Rattle.service.specs.Call.{Memory, Call, memory_of, fresh}
use Rattle.service.specs.Contract.{Ran}
use Rattle.service.specs.Claims.{Runs, answers_in, left_after}
use Rattle.service.proofs.CodeDemand3.{code_demand3}
use Rattle.journal.specs.declared.Fault.{Fault}
use Rattle.journal.specs.declared.read.Said.{Said}
use Rattle.journal.specs.declared.read.Said.TheVariants.{RegistryIllFormed, StateIllFormed, Waiting, AtBorder, Refused}
use Rattle.journal.specs.Record.{record_of}
use Rattle.journal.specs.Replay.{good, judge_act}
use Rattle.journal.specs.Reader.{Kept, reading, journal, read_journal}
use Rattle.journal.specs.Journalling.{journalling, records_in, journal_of}
use Rattle.journal.specs.Compact.{file_most}
use Rattle.journal.specs.Claims.{ReadBack, said_for, read_back, to_its_end, ReadsAs}
use Rattle.journal.proofs.RecordLaws.{record_back, is_record_lem}
use Rattle.journal.proofs.CutLaws.{read_then, read_good, read_part}
use Rattle.journal.proofs.ReplayLaws.{replay_short}
use Rattle.journal.proofs.KeptLaws.{read_well_formed}
use Rattle.journal.proofs.FileLaws.{reads_as, unrefused, whole_back}
use Rattle.recovery.specs.Unused.{never_used, unused}
use Rattle.recovery.specs.Claims.{Start, FirstStart, Restores, left_by, Survives, Durable}
use Rattle.recovery.proofs.UnusedLaws.{unused_same, never_used_lem}
use Rattle.recovery.proofs.RosterLaws.{roster_unused}
use Rattle.recovery.proofs.ByteLaws.{journal_bytes}
use Rattle.recovery.proofs.RequestLaws.{Tells, silent, tells, reply_tells, registry_same, reply_good}
use Rattle.recovery.proofs.FrontLaws.{answered_again, responses_first, Sent, sent_first}

-- ---- what is read of the bytes that one request appends

module _ (g x g' : List ℕ) (k : ℕ) where
  tells_read : Tells g x g' → (read journal (reading g k []) x).kept ≡ reading g' (k + length x) []
  tells_read (silent e same) =
      ap (λ (l : List ℕ). (read journal (reading g k []) l).kept) e
      ∙ (unfold read in ap₂ (λ (r : List ℕ) (n : ℕ). reading r n []) same (let z : k ≡ k + length x = omega (arith, ap length e) in z))
  tells_read (tells act e r) =
      let judged : judge_act g (Some act) ≡ good g' = (unfold judge_act in rw (r, judge_act)) in
      ap (λ (l : List ℕ). (read journal (reading g k []) l).kept) e
      ∙ read_good g k (record_of act) (is_record_lem act) g' (record_back act g (replay_short g act g' r) ∙ judged)
      ∙ ap (λ (l : List ℕ). reading g' (k + length l) []) (sym e)

  -- a part of them is held
  tells_part : Tells g x g' → (n : ℕ) → n < length x → (read journal (reading g k []) (take n x)).kept ≡ reading g k (take n x)
  tells_part (silent e same) n h = absurd (omega (arith, ap length e))
  tells_part (tells act e r) n h =
      subst (λ (l : List ℕ). n < length l → (read journal (reading g k []) (take n l)).kept ≡ reading g k (take n l)) (sym e)
      (λ short. read_part g k (record_of act) (is_record_lem act) [] (take n (record_of act)) (drop n (record_of act)) (take-append-drop n (record_of act))
      (omega (arith, length-drop n (record_of act)))) h

-- ---- requests, one after the other

module _ (list : List ℕ) where
  abbrev replies : (r : List ℕ) → Counts → (requests : List (List ℕ)) → List Handed
  replies r c requests = responses_from (journalling list) r c requests

  abbrev left : (r : List ℕ) → Counts → (requests : List (List ℕ)) → List ℕ
  left r c requests = registry_from (journalling list) r c requests

  restores : (requests : List (List ℕ)) (r : List ℕ) (c : Counts) → well_formed_registry r ≡ true → (k : ℕ)
      → (read journal (reading (unused r) k []) (records_in (replies r c requests))).kept
      ≡ reading (unused (left r c requests)) (k + length (records_in (replies r c requests))) []
  unfolding responses_from registry_from records_in flatten
  restores [] r c w k = (unfold read in ap (λ (n : ℕ). reading (unused r) n []) (let z : k ≡ k + 0 = omega arith in z))
  restores (request ∷ requests) r c w k =
      let v : Verdict (List ℕ) Counts Handed = verdict_on (journalling list) r c request in
      let x : List ℕ = v.response.recorded in
      let rest : List ℕ = records_in (replies v.registry v.counts requests) in
      read_then (reading (unused r) k []) x rest
      ∙ ap (λ (s : Kept). (read journal s rest).kept) (tells_read (unused r) x (unused v.registry) k (reply_tells list r w c request))
      ∙ restores requests v.registry v.counts (reply_good list r c request w) (k + length x)
      ∙ ap (λ (n : ℕ). reading (unused (left v.registry v.counts requests)) n []) (let z = length-append x rest in omega arith)

  -- well formed
  left_good : (requests : List (List ℕ)) (r : List ℕ) (c : Counts) → well_formed_registry r ≡ true → well_formed_registry (left r c requests) ≡ true
  unfolding registry_from
  left_good [] r c w = w
  left_good (request ∷ requests) r c w =
      let v : Verdict (List ℕ) Counts Handed = verdict_on (journalling list) r c request in
      left_good requests v.registry v.counts (reply_good list r c request w)

  -- the first n bytes of their records, among them those of the first `sent` requests
  record Upto (requests : List (List ℕ)) (r : List ℕ) (c : Counts) (k n sent : ℕ) : Type 0 where
    count : ℕ
    held : List ℕ
    least : sent ≤ count
    most : count ≤ length requests
    parts : take n (records_in (replies r c requests)) ≡ records_in (take count (replies r c requests)) ++ held
    reads : (read journal (reading (unused r) k []) (take n (records_in (replies r c requests)))).kept
        ≡ reading (unused (left r c (take count requests))) (k + length (records_in (take count (replies r c requests)))) held

  module _ (request : List ℕ) (requests : List (List ℕ)) (r : List ℕ) (c : Counts) (w : well_formed_registry r ≡ true) (k n : ℕ) where
    abbrev v : Verdict (List ℕ) Counts Handed
    v = verdict_on (journalling list) r c request

    abbrev x : List ℕ
    x = v.response.recorded

    abbrev rest : List ℕ
    rest = records_in (replies v.registry v.counts requests)

    -- the first record is among them,
    inside : length x ≤ n → (sent : ℕ) → Upto requests v.registry v.counts (k + length x) (n - length x) sent → Upto (request ∷ requests) r c k n (suc sent)
    unfolding responses_from registry_from records_in flatten
    inside fits sent u =
        let m : ℕ = n - length x in
        let front : take n (x ++ rest) ≡ x ++ take m rest
        = ap (λ (j : ℕ). take j (x ++ rest)) (let z : n ≡ length x + m = omega arith in z) ∙ take-append-add x rest m in
        let more : List ℕ = records_in (take u.count (replies v.registry v.counts requests)) in
        record {
          count = suc u.count;
          held = u.held;
          least = omega (arith, u.least);
          most = omega (arith, u.most);
          parts = front ∙ ap (λ (l : List ℕ). x ++ l) u.parts ∙ sym (append_assoc x more u.held);
          reads = ap (λ (l : List ℕ). (read journal (reading (unused r) k []) l).kept) front
              ∙ read_then (reading (unused r) k []) x (take m rest)
              ∙ ap (λ (s : Kept). (read journal s (take m rest)).kept) (tells_read (unused r) x (unused v.registry) k (reply_tells list r w c request))
              ∙ u.reads
              ∙ ap (λ (j : ℕ). reading (unused (left v.registry v.counts (take u.count requests))) j u.held)
              (let z : k + length x + length more ≡ k + length (x ++ more) = omega (arith, length-append x more) in z);
        }

    -- or a part of it
    within : n < length x → Upto (request ∷ requests) r c k n 0
    unfolding responses_from registry_from records_in flatten
    within short = record {
      count = 0;
      held = take n x;
      least = omega arith;
      most = omega arith;
      parts = take-append-le n x rest (omega arith);
      reads = ap (λ (l : List ℕ). (read journal (reading (unused r) k []) l).kept) (take-append-le n x rest (omega arith))
          ∙ tells_part (unused r) x (unused v.registry) k (reply_tells list r w c request) n short
          ∙ ap (λ (j : ℕ). reading (unused r) j (take n x)) (let z : k ≡ k + 0 = omega arith in z);
    }

  none_sent : {requests : List (List ℕ)} {r : List ℕ} {c : Counts} {k n sent : ℕ} → Upto requests r c k n sent → Upto requests r c k n 0
  none_sent u = record { count = u.count; held = u.held; least = omega arith; most = u.most; parts = u.parts; reads = u.reads }

  upto : (requests : List (List ℕ)) (r : List ℕ) (c : Counts) → well_formed_registry r ≡ true → (k n sent : ℕ) → sent ≤ length requests
      → length (records_in (take sent (replies r c requests))) ≤ n → Upto requests r c k n sent
  unfolding responses_from registry_from records_in flatten
  upto [] r c w k n sent few on-disk = record {
    count = 0;
    held = [];
    least = few;
    most = omega arith;
    parts = take-nil n;
    reads = ap (λ (l : List ℕ). (read journal (reading (unused r) k []) l).kept) (take-nil n)
        ∙ (unfold read in ap (λ (m : ℕ). reading (unused r) m []) (let z : k ≡ k + 0 = omega arith in z));
  }
  upto (request ∷ requests) r c w k n zero few on-disk =
      let v : Verdict (List ℕ) Counts Handed = verdict_on (journalling list) r c request in
      let x : List ℕ = v.response.recorded in
      let ih = upto requests v.registry v.counts (reply_good list r c request w) (k + length x) (n - length x) 0 (omega arith) (omega arith) in
      decide (leb (length x) n)
      (λ t. none_sent (inside request requests r c w k n (leb-true _ _ t) 0 ih))
      (λ t. within request requests r c w k n (leb-false _ _ t))
  upto (request ∷ requests) r c w k n (suc sent) few on-disk =
      let v : Verdict (List ℕ) Counts Handed = verdict_on (journalling list) r c request in
      let x : List ℕ = v.response.recorded in
      let records : List ℕ = records_in (take sent (replies v.registry v.counts requests)) in
      let long : length x + length records ≤ n = omega (arith, length-append x records, on-disk) in
      inside request requests r c w k n (omega arith) sent
      (upto requests v.registry v.counts (reply_good list r c request w) (k + length x) (n - length x) sent (omega arith) (omega arith))

-- ---- a start

abbrev said_kind : Said → ℕ
said_kind RegistryIllFormed = 1
said_kind StateIllFormed = 1
said_kind Waiting = 1
said_kind AtBorder = 0
said_kind (Refused fault) = 1

-- a reader at a border holds nothing, and has refused nothing
at_border : (s : Kept) → said_for s.fault s.held ≡ AtBorder → s ≡ reading s.registry s.kept []
at_border s e = go s.fault refl s.held refl
  where
    go : (o : Option Fault) → s.fault ≡ o → (h : List ℕ) → s.held ≡ h → s ≡ reading s.registry s.kept []
    go (Some fault) q h p = absurd (omega (arith, ap said_kind (ap₂ said_for (sym q) (sym p) ∙ e)))
    go None q [] p = λ i. record { registry = s.registry; kept = s.kept; held = p i; fault = q i }
    go None q (b ∷ h) p = absurd (omega (arith, ap said_kind (ap₂ said_for (sym q) (sym p) ∙ e)))

module _ (list first journaled registry : List ℕ) (start : Start first journaled registry) where
  w : well_formed_registry registry ≡ true
  w = ap (λ (b : ReadBack). well_formed_registry b.registry) (sym start.read) ∙ read_well_formed first journaled start.well_formed_lem

  same_start : unused registry ≡ registry
  same_start = unused_same registry (good_of registry w).size start.idle

  -- what is read behind the journal so far
  read_on : (bytes : List ℕ) → (read_journal first (journaled ++ bytes)).kept ≡ (read journal (reading (unused registry) (length journaled) []) bytes).kept
  read_on bytes =
      let s : Kept = (read_journal first journaled).kept in
      let there : s ≡ reading (unused registry) (length journaled) []
      = at_border s (ap (λ (b : ReadBack). b.said) start.read)
      ∙ ap₂ (λ (g : List ℕ) (n : ℕ). reading g n []) (ap (λ (b : ReadBack). b.registry) start.read ∙ sym same_start) (ap (λ (b : ReadBack). b.kept) start.read) in
      read_then (reading first 0 []) journaled bytes ∙ ap (λ (t : Kept). (read journal t bytes).kept) there

  -- the records of requests behind it are read to their end
  back : (requests : List (List ℕ))
      → (let after : List ℕ = journaled ++ records_in (replies list registry no_counts requests) in read_back first after ≡ to_its_end after (unused (left list registry no_counts requests)))
  back requests =
      let records : List ℕ = records_in (replies list registry no_counts requests) in
      let after : List ℕ = journaled ++ records in
      whole_back first after (unused (left list registry no_counts requests))
      (read_on records ∙ restores list requests registry no_counts w (length journaled)
      ∙ ap (λ (n : ℕ). reading (unused (left list registry no_counts requests)) n []) (sym (length-append journaled records)))

  -- and so the next start is there
  starts : (requests : List (List ℕ)) (after registry' : List ℕ) → after ≡ journaled ++ records_in (replies list registry no_counts requests)
      → registry' ≡ unused (left list registry no_counts requests) → all is_byte after ≡ true → Start first after registry'
  starts requests after registry' e q b = record {
    well_formed_lem = start.well_formed_lem;
    bytes = b;
    read = ap (read_back first) e ∙ back requests ∙ ap₂ to_its_end (sym e) (sym q);
    idle = ap never_used q ∙ never_used_lem (left list registry no_counts requests) (good_of (left list registry no_counts requests) (left_good list requests registry no_counts w)).size;
  }

  -- ---- any calls from it

  module _ (calls : List Call) (runs : List Ran) (p : Runs list (fresh registry) calls runs) (b : all is_byte (taken_stream calls (answers_in runs)) ≡ true) where
    abbrev stream : List ℕ
    stream = taken_stream calls (answers_in runs)

    abbrev requests : List (List ℕ)
    requests = (parts_of stream).answered

    abbrev records : List ℕ
    records = joined_records (answers_in runs)

    replies_are : (rules (journalling list) registry stream).responses ≡ replies list registry no_counts requests
    unfolding responses_to journalling judgement
    replies_are = (rules_from_stream (journalling list) registry stream).responses

    replies_count : length (replies list registry no_counts requests) ≡ length requests
    unfolding responses_to journalling judgement
    replies_count = one_each (journalling list) registry requests

    records_are : records ≡ records_in (replies list registry no_counts requests)
    unfolding journal_of
    records_are = ((code_demand3 list registry).follows calls runs p).records ∙ ap records_in replies_are

    -- the registry of the rules on the stream
    rules_left : (s : List ℕ) (answered : List (List ℕ)) → (parts_of s).answered ≡ answered
        → (rules (judgement list) registry s).state.registry ≡ left list registry no_counts answered
    unfolding judgement
    rules_left s answered e =
        rules_registry (judgement list) registry s ∙ registry_same list (parts_of s).answered registry no_counts ∙ ap (left list registry no_counts) e

    left_is : unused (left_after (fresh registry) runs).registry ≡ unused (left list registry no_counts requests)
    unfolding memory_of
    left_is = ap (λ (m : Memory). unused m.registry) ((code_demand3 list registry).follows calls runs p).memory ∙ ap unused (rules_left stream requests refl)

    record_bytes_lem : all is_byte records ≡ true
    record_bytes_lem = ap (all is_byte) ((code_demand3 list registry).follows calls runs p).records ∙ journal_bytes list registry stream w b

    pub restored : length (journaled ++ records) ≤ file_most
        → (let after : List ℕ = journaled ++ records in
        let left' : List ℕ = unused (left_after (fresh registry) runs).registry in
        ReadsAs first after (to_its_end after left') × Start first after left')
    restored l =
        let after : List ℕ = journaled ++ records in
        let bytes : all is_byte after ≡ true = all_append is_byte journaled records start.bytes record_bytes_lem in
        let next = starts requests after (unused (left_after (fresh registry) runs).registry) (ap (λ (x : List ℕ). journaled ++ x) records_are) left_is bytes in
        (reads_as first after _ start.well_formed_lem (bytes, l) next.read, next)

    -- ---- the first n bytes of their records, those of the first `sent` calls among them

    module _ (sent n : ℕ) (on-disk : length (joined_records (take sent (answers_in runs))) ≤ n) (l : length (journaled ++ take n records) ≤ file_most) where
      abbrev count_sent : ℕ
      count_sent = length (responses_in (take sent (answers_in runs)))

      s : Sent list registry calls runs p sent
      s = sent_first list registry calls runs p sent

      first_replies : take count_sent (replies list registry no_counts requests) ≡ (rules (journalling list) registry (taken_stream (take sent calls) (take sent (answers_in runs)))).responses
      first_replies =
          ap (take count_sent) (sym replies_are ∙ s.responses)
          ∙ take_at (rules (journalling list) registry (taken_stream (take sent calls) (take sent (answers_in runs)))).responses s.more count_sent (sym s.count)

      few : count_sent ≤ length requests
      few =
          let n = ap length (sym replies_are ∙ s.responses) ∙ length-append (rules (journalling list) registry (taken_stream (take sent calls) (take sent (answers_in runs)))).responses s.more in
          omega (arith, s.count, replies_count)

      u : Upto list requests registry no_counts (length journaled) n count_sent
      u = upto list requests registry no_counts w (length journaled) n count_sent few
          (subst (λ (x : ℕ). x ≤ n) (ap length (s.records ∙ ap records_in (sym first_replies))) on-disk)

      abbrev disk : List ℕ
      disk = journaled ++ take n records

      abbrev among : List ℕ
      among = records_in (take u.count (replies list registry no_counts requests))

      cut_is : take n records ≡ among ++ u.held
      cut_is = ap (take n) records_are ∙ u.parts

      kept : ℕ
      kept = length journaled + length among

      whole_is : take kept disk ≡ journaled ++ records_in (replies list registry no_counts (take u.count requests))
      unfolding kept
      whole_is =
          take-append-add journaled (take n records) (length among)
          ∙ ap (λ (x : List ℕ). journaled ++ x)
          (ap (take (length among)) cut_is ∙ take_at among u.held (length among) refl ∙ ap records_in (responses_first (journalling list) requests registry no_counts u.count))

      left_by_lem : left_by list first journaled registry calls runs u.count ≡ unused (left list registry no_counts (take u.count requests))
      left_by_lem = ap unused (rules_left (flatten (take u.count requests)) (take u.count requests) (answered_again stream u.count))

      disk_bytes : all is_byte disk ≡ true
      disk_bytes = all_append is_byte journaled (take n records) start.bytes (all_take is_byte n records record_bytes_lem)

      read_disk : (read_journal first disk).kept ≡ reading (left_by list first journaled registry calls runs u.count) kept u.held
      unfolding kept
      read_disk =
          read_on (take n records)
          ∙ ap (λ (x : List ℕ). (read journal (reading (unused registry) (length journaled) []) (take n x)).kept) records_are
          ∙ u.reads
          ∙ ap (λ (g : List ℕ). reading g (length journaled + length among) u.held) (sym left_by_lem)

      long : length disk ≡ kept + length u.held
      unfolding kept
      long = omega (arith, length-append journaled (take n records), ap length cut_is ∙ length-append among u.held)

      pub survived : Survives list first journaled registry calls runs sent n
      survived = record {
        count = u.count;
        sent_among = u.least;
        most = u.most;
        kept = kept;
        reads = reads_as first disk _ start.well_formed_lem (disk_bytes, l) (unrefused first disk (left_by list first journaled registry calls runs u.count) u.held kept read_disk long);
        again = starts (take u.count requests) (take kept disk) (left_by list first journaled registry calls runs u.count) whole_is left_by_lem (all_take is_byte kept disk disk_bytes);
      }

-- ---- THE CLAIMS

pub restore : Restores
restore list first journaled registry start calls runs p b l = restored list first journaled registry start calls runs p b l

pub durable : Durable
durable list first journaled registry start calls runs p b sent n on-disk l = survived list first journaled registry start calls runs p b sent n on-disk l

-- a roster's registry is a start
pub first_start : FirstStart
unfolding load_roster roster_into
first_start roster memory e = go (eqb (length memory) registry_size) e
  where
    begins : (names : List (List ℕ)) → LegalNames names → Start (registry_of names) [] (registry_of names)
    begins names l = record { well_formed_lem = registry_good names l; bytes = refl; read = unfold read in refl; idle = roster_unused names l }

    read_as : (r : Roster) → roster_of roster ≡ r → (roster_into memory r).answer ≡ Ok tt → Start (roster_into memory r).registry [] (roster_into memory r).registry
    read_as (applications names) q f = begins names (roster_legal roster names q)
    read_as (faulty fault) q f = absurd (let z : ◌≡◌ {A = ℕ} 0 1 = cc in omega arith)

    go : (t : Bool)
        → (let o : RosterOutcome = when t then roster_into memory (roster_of roster) else roster_into memory (faulty WrongMemorySize) in
        o.answer ≡ Ok tt → Start o.registry [] o.registry)
    go false f = absurd (let z : ◌≡◌ {A = ℕ} 0 1 = cc in omega arith)
    go true f = read_as (roster_of roster) refl f
