-- CUT ANYWHERE, EVERY FILE, and J1 TO J3: what calls of the code come to on a file of records, in any chunks.
use Rattle.std.proofs.Common.{Some, None, is_some}
use mathlib.Core.Path.{◌≡◌, refl, sym, ap, ap₂, ◌∙◌, subst}
use Prim.Native.Nat.{ℕ, zero, suc, ◌+◌, ◌≤◌, ◌<◌}
use mathlib.Core.Bool.{true, false, ◌&&◌}
use mathlib.Core.List.{List, [], ◌∷◌, ◌++◌, append_assoc, flatten}
use native.Mathlib.Omega.{arith}
use native.Mathlib.Nat.{zero-add, le_refl}
use borrow.Author.Tests.{eq-eqb, ne_eqb}
use lib.ListN.{length, take, length-append, length-take}
use lib.Dec.{ltb, eqb}
use Rattle.wire.specs.Choice.{when◌then◌else◌}
use Rattle.wire.specs.Lists.{all}
use Rattle.wire.proofs.ListLaws.{all_take}
use Rattle.registry.specs.WellFormed.{well_formed_registry}
use Rattle.reading.specs.Reader.{Reading, read}
use Rattle.reading.proofs.ReaderLaws.{decide, and_then, read_append, read_ended, extent}
use Rattle.journal.specs.declared.Fault.{Fault}
use Rattle.journal.specs.declared.read.Said.TheVariants.{Waiting, AtBorder, Refused}
use Rattle.journal.specs.Record.{is_whole}
use Rattle.journal.specs.Replay.{Judged, good, bad, judge_record}
use Rattle.journal.specs.Reader.{Kept, reading, stopped, journal, read_journal}
use Rattle.journal.specs.File.{is_record, after_all, whole_in}
use Rattle.journal.specs.Claims.{ReadBack, said_for, read_back, to_its_end, ReadsAs, is_file, CutAnywhere, Ends, unfinished, refused, Divided, EveryFile, Waits, Refuses, ReadToItsEnd}
use Rattle.journal.proofs.CutLaws.{some_bytes, FirstRecord, first_record, read_then, read_held, read_bad, record_taken, read_all, first_bytes}
use Rattle.journal.proofs.PiecesLaws.{file_back}

-- what the uncut reader comes to, so do calls of the code
pub reads_as : (registry file : List ℕ) (result : ReadBack) → well_formed_registry registry ≡ true → is_file file → read_back registry file ≡ result → ReadsAs registry file result
reads_as registry file result w f e = subst (ReadsAs registry file) e (file_back registry w file f)

-- ---- a file of which no record is refused

-- the reader is at a border, or waits for the rest of a record
border : (held : List ℕ) (kept n : ℕ) → n ≡ kept + length held → said_for None held ≡ (when eqb kept n then AtBorder else Waiting)
border [] kept n e = rw (eq-eqb kept n (omega arith))
border (b ∷ held) kept n e = rw (ne_eqb kept n (λ z. omega (arith, z)))

border_alone : (held : List ℕ) → said_for None held ≡ (when eqb (length held) 0 then AtBorder else Waiting)
border_alone [] = refl
border_alone (b ∷ held) = rw (ne_eqb (length (b ∷ held)) 0 (λ z. omega (arith, z)))

pub unrefused : (registry file after held : List ℕ) (kept : ℕ) → (read_journal registry file).kept ≡ reading after kept held → length file ≡ kept + length held
    → read_back registry file ≡ record { said = when eqb kept (length file) then AtBorder else Waiting; taken = length file; kept = kept; registry = after }
unrefused registry file after held kept e n =
    let all_taken : (read_journal registry file).taken ≡ length file
    = (extent journal (reading registry 0 []) file).all (ap (λ (s : Kept). is_some s.fault) e) in
    λ i. record {
      said = (ap (λ (s : Kept). said_for s.fault s.held) e ∙ border held kept (length file) n) i;
      taken = all_taken i;
      kept = (e i).kept;
      registry = (e i).registry;
    }

-- all of it is whole records
pub whole_back : (registry file after : List ℕ) → (read_journal registry file).kept ≡ reading after (length file) [] → read_back registry file ≡ to_its_end file after
whole_back registry file after e =
    let n : ℕ = length file in
    unrefused registry file after [] n e (let z : n ≡ n + 0 = omega arith in z)
    ∙ (λ i. record { said = sym (border [] n n (let z : n ≡ n + 0 = omega arith in z)) i; taken = n; kept = n; registry = after })

-- ---- CUT ANYWHERE

pub cut_anywhere : CutAnywhere
cut_anywhere registry records last w r e (b, l) n =
    let c = first_bytes registry 0 n records last r e in
    let file : List ℕ = take n (flatten records) in
    let kept : ℕ = length (flatten (whole_in n records)) in
    record {
      after = c.after;
      replayed = c.replayed;
      reads = reads_as registry file _ w (all_take (λ b. ltb b 256) n (flatten records) b, (let m = length-take n (flatten records) in omega arith))
          (unrefused registry file c.after c.held kept (c.reads ∙ ap (λ (k : ℕ). reading c.after k c.held) (zero-add kept))
          (ap length c.parts ∙ length-append (flatten (whole_in n records)) c.held));
    }

-- ---- J1, J2, J3

refused_back : (registry : List ℕ) (records : List (List ℕ)) (last x rest : List ℕ) (fault : Fault) → all is_record records ≡ true
    → after_all registry records ≡ Some last → is_record x ≡ true → judge_record last x ≡ bad fault
    → read_back registry (flatten records ++ (x ++ rest)) ≡ record { said = Refused fault; taken = length (flatten records) + length x; kept = length (flatten records); registry = last }
refused_back registry records last x rest fault r e rx q =
    let k : ℕ = length (flatten records) in
    let s : Kept = reading registry 0 [] in
    let good : (read journal s (flatten records)).kept ≡ reading last k []
    = read_all registry 0 records last r e ∙ ap (λ (j : ℕ). reading last j []) (zero-add k) in
    let taken : (read journal s (flatten records)).taken ≡ k = (extent journal s (flatten records)).all (ap (λ (t : Kept). is_some t.fault) good) in
    let at_x : (read journal (reading last k []) x).kept ≡ stopped last k fault = read_bad last k x rx fault q in
    let ended : read journal (reading last k []) (x ++ rest) ≡ read journal (reading last k []) x
    = read_ended journal (reading last k []) x rest (ap (λ (t : Kept). is_some t.fault) at_x) in
    let whole : read journal s (flatten records ++ (x ++ rest)) ≡ and_then (read journal s (flatten records)) (read journal (reading last k []) x)
    = read_append journal s (flatten records) (x ++ rest)
    ∙ ap (λ (t : Kept). and_then (read journal s (flatten records)) (read journal t (x ++ rest))) good
    ∙ ap (and_then (read journal s (flatten records))) ended in
    let kept : (read journal s (flatten records ++ (x ++ rest))).kept ≡ stopped last k fault = ap (λ (a : Reading Kept Fault). a.kept) whole ∙ at_x in
    let count : (read journal s (flatten records ++ (x ++ rest))).taken ≡ k + length x
    = ap (λ (a : Reading Kept Fault). a.taken) whole ∙ ap₂ ◌+◌ taken (record_taken last k x rx) in
    λ i. record {
      said = ap (λ (t : Kept). said_for t.fault t.held) kept i;
      taken = count i;
      kept = (kept i).kept;
      registry = (kept i).registry;
    }

-- ---- EVERY FILE

module _ (g bytes : List ℕ) where
  -- no record of it is good
  none_good : Ends g bytes → Divided g bytes
  unfolding after_all flatten
  none_good e = record { records = []; last = g; rest = bytes; parts = refl; whole = refl; replayed = refl; ends = e }

  -- the first is, and the rest is divided
  one_good : (f : FirstRecord bytes) (after : List ℕ) → judge_record g f.bytes ≡ good after → Divided after f.behind → Divided g bytes
  unfolding after_all flatten
  one_good f after q d = record {
    records = f.bytes ∷ d.records;
    last = d.last;
    rest = d.rest;
    parts = f.parts ∙ ap (λ (l : List ℕ). f.bytes ++ l) d.parts ∙ sym (append_assoc f.bytes (flatten d.records) d.rest);
    whole = ap₂ ◌&&◌ f.is d.whole;
    replayed = rw (q, after_all) d.replayed;
    ends = d.ends;
  }

  divide_first : ((after : List ℕ) (f : FirstRecord bytes) → Divided after f.behind) → Divided g bytes
  divide_first ih = decide (is_whole bytes) (λ w. judged (first_record bytes w)) (λ u. none_good (unfinished u))
    where
      judged : FirstRecord bytes → Divided g bytes
      judged f = by_judged (judge_record g f.bytes) refl
        where
          by_judged : (j : Judged) → judge_record g f.bytes ≡ j → Divided g bytes
          by_judged (bad fault) q = none_good (refused f.bytes f.behind fault f.parts f.is q)
          by_judged (good after) q = one_good f after q (ih after f)

shorter : (bytes : List ℕ) (f : FirstRecord bytes) → length f.behind < length bytes
shorter bytes f = omega (arith, ap length f.parts ∙ length-append f.bytes f.behind, some_bytes f.bytes f.is)

divide : (fuel : ℕ) (g bytes : List ℕ) → length bytes ≤ fuel → Divided g bytes
divide zero g bytes h = divide_first g bytes (λ after f. absurd (omega (arith, shorter bytes f)))
divide (suc fuel) g bytes h = divide_first g bytes (λ after f. divide fuel after f.behind (omega (arith, shorter bytes f)))

pub every_file : EveryFile
every_file registry file = divide (length file) registry file (le_refl (length file))

waiting_back : (registry : List ℕ) (records : List (List ℕ)) (last rest : List ℕ) → all is_record records ≡ true → after_all registry records ≡ Some last
    → is_whole rest ≡ false → (read_journal registry (flatten records ++ rest)).kept ≡ reading last (length (flatten records)) rest
waiting_back registry records last rest r e u =
    let k : ℕ = length (flatten records) in
    read_then (reading registry 0 []) (flatten records) rest
    ∙ ap (λ (s : Kept). (read journal s rest).kept) (read_all registry 0 records last r e ∙ ap (λ (j : ℕ). reading last j []) (zero-add k))
    ∙ read_held last k [] rest u

pub read_to_its_end : ReadToItsEnd
read_to_its_end registry records last w r e = (waits, refuses)
  where
    waits : Waits registry records last
    waits rest u f =
        let n : length (flatten records ++ rest) ≡ length (flatten records) + length rest = length-append (flatten records) rest in
        reads_as registry (flatten records ++ rest) _ w f
        (unrefused registry (flatten records ++ rest) last rest (length (flatten records)) (waiting_back registry records last rest r e u) n
        ∙ (λ i. record { said = (sym (border rest (length (flatten records)) (length (flatten records ++ rest)) n) ∙ border_alone rest) i; taken = length (flatten records ++ rest); kept = length (flatten records); registry = last }))

    refuses : Refuses registry records last
    refuses x behind fault rx q f =
        reads_as registry (flatten records ++ (x ++ behind)) _ w f (refused_back registry records last x behind fault r e rx q)
