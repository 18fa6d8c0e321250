-- What is written is the bill of some three files.
use Rattle.std.proofs.Common.{Option, Some, None}
use mathlib.Core.Path.{◌≡◌, refl, sym, ap, ◌∙◌, subst}
use mathlib.Core.Bool.{Bool, true, false, true≢false}
use mathlib.Core.List.{List, []}
use Prim.Native.Nat.{ℕ}
use native.Mathlib.Omega.{arith}
use lib.IntN.{ℤ}
use lib.ListN.{length, take, drop, length-append}
use lib.Seq.{take-append_seam}
use Rattle.wire.specs.code.Wrote.{Wrote}
use Rattle.connection.specs.Connection.{well_formed_connection}
use Rattle.registry.specs.WellFormed.{well_formed_registry}
use Rattle.roster.proofs.RosterLaws.{roster_legal}
use Rattle.counters.specs.Counters.{counter_most}
use Rattle.service.specs.Call.{Memory}
use Rattle.billing.specs.Bill.{no_file, is_list_refused, bill}
use Rattle.billing.specs.Outcome.{bill_in}
use Rattle.billing.proofs.RulesLaws.{bill_by_rules}
use Rattle.starting.specs.Start.{Source, MayGive, is_read, with_file, is_good, line_of}
use Rattle.starting.specs.code.Stream.{left_by, After}
use Rattle.starting.specs.code.Sources.{StartRead, StreamTaken, StreamRead, Billable}
use Rattle.starting.proofs.SourceLaws.{good_read, good_registry, start_bills}
use Rattle.bill.specs.Prints.{printed, Prints}

-- ---- what is written, by what became of the three files

pub has_bill : (s o : Source) (m : Memory) → o ≡ s → is_good o ≡ true → Billable s m
    → (well_formed_connection m.connection ≡ true) × (well_formed_registry m.registry ≡ true)
unfolding Billable
has_bill s o m same g b = b (ap is_good (sym same) ∙ g)

module _ (s o : Source) (m : Memory) {d e : List ℕ} {r : ℕ} (same : o ≡ s) where
  pub wrote_line : is_good o ≡ false → Wrote (line_of o) d e r → Wrote (printed s m) d e r
  unfolding printed
  wrote_line g w = subst (λ (x : Source). Wrote (printed x m) d e r) same (rw g w)

  pub wrote_bill : is_good o ≡ true → Wrote (bill_in m) d e r → Wrote (printed s m) d e r
  unfolding printed
  wrote_bill g w = subst (λ (x : Source). Wrote (printed x m) d e r) same (rw g w)

-- ---- text at the front of the buffer

none_given : (file : Option ℤ) → MayGive file None
unfolding MayGive
none_given (Some fd) = tt
none_given None = refl

module _ (rosterFile streamFile listFile : Option ℤ) {text d e : List ℕ} {r : ℕ} (w : Wrote text d e r) where
  prints : (roster stream list : Option (List ℕ)) → MayGive rosterFile roster → MayGive streamFile stream → MayGive listFile list
      → text ≡ bill roster stream list → Prints rosterFile streamFile listFile e r
  prints roster stream list g h k same = record {
    roster = roster;
    stream = stream;
    list = list;
    roster_given = g;
    stream_given = h;
    list_given = k;
    fits = omega (arith, w.count, ap length w.bytes ∙ length-append text (drop (length text) d));
    text = ap (λ (n : ℕ). take n e) w.count ∙ ap (take (length text)) w.bytes ∙ take-append_seam text (drop (length text) d) ∙ same;
  }

  pub no_file_prints : text ≡ no_file → Prints rosterFile streamFile listFile e r
  unfolding bill
  no_file_prints same = prints None None None (none_given rosterFile) (none_given streamFile) (none_given listFile) same

-- ---- the bill of what became of the three files

module _ (rosterFile listFile : Option ℤ) (registry list : List ℕ) (m : Memory) (s : Source) (given : MayGive listFile (Some list))
    (start : StartRead rosterFile registry list s) where
  by_rules_lem : (good : is_good s ≡ true) (a : After list registry counter_most m) → bill_in m ≡ bill start.roster (Some a.stream) (Some list)
  unfolding bill is_list_refused
  by_rules_lem good a =
      let g = good_read rosterFile registry list s start good in
      rw (g.same, g.good, g.listed)
      (ap bill_in a.memory
      ∙ ap (λ (r : List ℕ). bill_in (left_by list r a.stream)) (good_registry rosterFile registry list s start good)
      ∙ bill_by_rules g.names (roster_legal g.file g.names g.good) list a.stream)

  module _ {d e : List ℕ} {r : ℕ} where
    -- the stream was read to its end, and the start is refused, or good
    refused_prints : (fd : ℤ) → is_good s ≡ false → Wrote (printed s m) d e r → Prints rosterFile (Some fd) listFile e r
    unfolding MayGive printed is_read with_file
    refused_prints fd bad w =
        prints rosterFile (Some fd) listFile w start.roster (Some []) (Some list) start.given tt given
        (rw bad (ap line_of start.is ∙ start_bills start.roster (Some []) (Some list) (sym (ap is_good start.is) ∙ bad)))

    good_prints : (fd : ℤ) → is_good s ≡ true → After list registry counter_most m → Wrote (printed s m) d e r → Prints rosterFile (Some fd) listFile e r
    unfolding MayGive printed
    good_prints fd good a w =
        prints rosterFile (Some fd) listFile w start.roster (Some a.stream) (Some list) start.given tt given (rw good (by_rules_lem good a))

    pub outcome_prints : (stream : Option ℤ) (is_whole : Bool) → StreamRead stream s registry list is_whole m → Wrote (printed (with_file s is_whole) m) d e r
        → Prints rosterFile stream listFile e r
    unfolding StreamRead StreamTaken with_file printed line_of
    outcome_prints stream false g w = no_file_prints rosterFile stream listFile w refl
    outcome_prints None true g w = absurd (true≢false g)
    outcome_prints (Some fd) true g w = go (is_good s) refl
      where
        go : (t : Bool) → is_good s ≡ t → Prints rosterFile (Some fd) listFile e r
        go true good = good_prints fd good (g good) w
        go false bad = refused_prints fd bad w

-- ---- a missing file: exactly `no file` is printed

pub missing_roster_prints : (stream list : Option ℤ) (out : List ℕ) (n : ℕ) → Prints None stream list out n → take n out ≡ no_file
unfolding MayGive bill
missing_roster_prints stream list out n p = p.text ∙ ap (λ (o : Option (List ℕ)). bill o p.stream p.list) p.roster_given

pub missing_stream_prints : (roster list : Option ℤ) (out : List ℕ) (n : ℕ) → Prints roster None list out n → take n out ≡ no_file
unfolding MayGive bill
missing_stream_prints roster list out n p =
    p.text ∙ ap (λ (o : Option (List ℕ)). bill p.roster o p.list) p.stream_given ∙ go p.roster
  where
    go : (o : Option (List ℕ)) → bill o None p.list ≡ no_file
    go None = refl
    go (Some file) = refl

pub missing_list_prints : (roster stream : Option ℤ) (out : List ℕ) (n : ℕ) → Prints roster stream None out n → take n out ≡ no_file
unfolding MayGive bill
missing_list_prints roster stream out n p = p.text ∙ ap (bill p.roster p.stream) p.list_given ∙ go p.roster p.stream
  where
    go : (o s : Option (List ℕ)) → bill o s None ≡ no_file
    go None s = refl
    go (Some file) None = refl
    go (Some file) (Some bytes) = refl
