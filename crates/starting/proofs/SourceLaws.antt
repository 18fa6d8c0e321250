-- What becomes of the three files, by what was read of them.
use Rattle.std.proofs.Common.{Option, Some, None, Result, Ok, Err}
use mathlib.Core.Path.{◌≡◌, refl, sym, ap, ◌∙◌, subst}
use mathlib.Core.Bool.{Bool, true, false, true≢false, false≢true, not}
use mathlib.Core.List.{List, []}
use Prim.Native.Nat.{ℕ, ◌≤◌}
use native.Mathlib.Omega.{arith}
use borrow.Author.Tests.{eq-eqb}
use lib.ListN.{length, take}
use lib.IntN.{ℤ}
use Rattle.wire.specs.Choice.{when◌then◌else◌}
use Rattle.wire.proofs.TestLaws.{some≢none}
use Rattle.stream.specs.Rules.{rules}
use Rattle.stream.proofs.KeptLaws.{rules_connection, rules_kept}
use Rattle.connection.specs.Connection.{well_formed_connection}
use Rattle.connection.proofs.ConnectionLaws.{stored_good}
use Rattle.registry.specs.Registry.{registry_size, registry_of}
use Rattle.registry.specs.WellFormed.{well_formed_registry}
use Rattle.registry.proofs.KeylessLaws.{registry_good}
use Rattle.roster.specs.Roster.{Roster, applications, faulty, roster_of, roster_into, load_roster}
use Rattle.roster.specs.declared.RosterFault.{RosterFault}
use Rattle.roster.proofs.RosterLaws.{roster_legal}
use Rattle.shipped.specs.Shipped.{well_formed_list}
use Rattle.judgement.specs.Judgement.{judgement}
use Rattle.counters.specs.Counters.{counter_most, largest_count}
use Rattle.service.specs.Call.{Memory, memory_of}
use Rattle.service.proofs.KeptLaws.{keeps}
use Rattle.billing.specs.Bill as bills
use Rattle.billing.specs.Bill.{refused_list, bill_for, bill}
use Rattle.starting.specs.Start.{Source, MayGive, is_read, roster_source, roster_start, list_checked, with_list, start_of, with_file, is_good, line_of}
use Rattle.starting.specs.declared.start.StartRefusal.TheVariants.{Unreadable}
use Rattle.starting.specs.code.Stream.{KeptWithin, After}
use Rattle.starting.specs.code.Sources.{SourceOutcome, source_with, source_for, source_of, load_front, Starts, RosterRead, ListRead, StartRead, Ready, StreamTaken, StreamRead, Billable}
use Rattle.starting.proofs.FeedLaws.{kept_bytes}

-- ---- what was kept of a roster file, loaded

module _ (bytes memory : List ℕ) where
  pub load_none : {read : Option ℕ} → read ≡ None → source_with (Err Unreadable) memory ≡ load_front bytes read memory
  unfolding load_front
  load_none e = sym (ap (λ (r : Option ℕ). load_front bytes r memory) e)

  pub load_kept : {read : Option ℕ} {n : ℕ} {answer : Result (Unit {0}) RosterFault} {after : List ℕ} {s : Source} → read ≡ Some n
      → record { answer = answer; registry = after } ≡ load_roster (take n bytes) memory → s ≡ source_for answer → source_with s after ≡ load_front bytes read memory
  unfolding load_front source_of
  load_kept {after = after} e o q = ap (λ (x : Source). source_with x after) q ∙ ap source_of o ∙ sym (ap (λ (r : Option ℕ). load_front bytes r memory) e)

-- ---- a roster file that was read

starts_none : (registry : List ℕ) → Starts None registry
unfolding Starts
starts_none registry file names e q = absurd (some≢none file (sym e))

module _ (file memory : List ℕ) (size : length memory ≡ registry_size) where
  loaded_source : source_for (load_roster file memory).answer ≡ roster_start (Some file)
  unfolding source_for load_roster roster_into roster_start roster_source
  loaded_source = rw (eq-eqb (length memory) registry_size size) (go (roster_of file))
    where
      go : (r : Roster) → source_for (roster_into memory r).answer ≡ roster_source r
      go (applications names) = refl
      go (faulty fault) = refl

  loaded_starts : Starts (Some file) (load_roster file memory).registry
  unfolding Starts load_roster roster_into
  loaded_starts other names e q =
      let same : file ≡ other = cc in
      rw (eq-eqb (length memory) registry_size size) (ap (λ (r : Roster). (roster_into memory r).registry) (ap roster_of same ∙ q))

pub roster_missing : (registry : List ℕ) {f : Option ℤ} → f ≡ None → RosterRead f registry (Err Unreadable)
unfolding MayGive roster_start
roster_missing registry e = record { roster = None; given = rw e refl; is = refl; registered = starts_none registry }

-- whatever was kept of it
pub roster_open : {f : Option ℤ} {fd : ℤ} → f ≡ Some fd → (bytes memory : List ℕ) → length memory ≡ registry_size → (read : Option ℕ) (o : SourceOutcome)
    → o ≡ load_front bytes read memory → RosterRead f o.registry o.answer
unfolding MayGive load_front source_of roster_start
roster_open e bytes memory size (Some n) o q = record {
  roster = Some (take n bytes);
  given = rw e tt;
  is = ap (λ (x : SourceOutcome). x.answer) q ∙ loaded_source (take n bytes) memory size;
  registered = subst (Starts (Some (take n bytes))) (sym (ap (λ (x : SourceOutcome). x.registry) q)) (loaded_starts (take n bytes) memory size);
}
roster_open e bytes memory size None o q = record {
  roster = None;
  given = rw e tt;
  is = ap (λ (x : SourceOutcome). x.answer) q;
  registered = starts_none o.registry;
}

-- ---- and then a list of keys

pub list_missing : (most : ℕ) {f : Option ℤ} → f ≡ None → ListRead f most None
unfolding ListRead
list_missing most e = rw e refl

pub list_open : (most : ℕ) (read : Option ℕ) {f : Option ℤ} {fd : ℤ} → f ≡ Some fd → KeptWithin most read → ListRead f most read
unfolding ListRead
list_open most read e k = rw e k

-- a list of which bytes were kept was opened
pub list_kept : (f : Option ℤ) {most n : ℕ} {read : Option ℕ} (bytes : List ℕ) → ListRead f most read → read ≡ Some n → (n ≤ most) × MayGive f (Some bytes)
unfolding ListRead MayGive
list_kept (Some fd) bytes k e = (kept_bytes k e, tt)
list_kept None bytes k e = absurd (let z : ◌≡◌ {A = ℕ} 0 1 = cc in omega arith)

-- ---- one file more, and whether the start is good

pub with_unread : (s : Source) {is_whole : Bool} → is_whole ≡ false → Err Unreadable ≡ with_file s is_whole
unfolding with_file
with_unread s w = rw w refl

pub with_read : (s : Source) {is_whole : Bool} → is_whole ≡ true → s ≡ with_file s is_whole
unfolding with_file
with_read s w = rw w refl

-- ---- the start, by what was read

pub start_read : (roster : Option ℤ) (registry list : List ℕ) (s start : Source) → RosterRead roster registry s → start ≡ with_list s (well_formed_list list)
    → StartRead roster registry list start
unfolding start_of
start_read roster registry list s start r e = record {
  roster = r.roster;
  given = r.given;
  is = e ∙ ap (λ (x : Source). with_list x (well_formed_list list)) r.is;
  registered = r.registered;
}

-- a good start has a good roster and a good list
pub record GoodStart (roster : Option (List ℕ)) (list : List ℕ) : Type 0 where
  pub file : List ℕ
  pub names : List (List ℕ)
  pub same : roster ≡ Some file
  pub good : roster_of file ≡ applications names
  pub listed : well_formed_list list ≡ true

good_start : (roster : Option (List ℕ)) (list : List ℕ) → is_good (start_of roster (Some list)) ≡ true → GoodStart roster list
unfolding start_of roster_start roster_source list_checked with_list
good_start None list e = absurd (false≢true e)
good_start (Some file) list e = go (roster_of file) refl (well_formed_list list) refl e
  where
    go : (r : Roster) → roster_of file ≡ r → (t : Bool) → well_formed_list list ≡ t → is_good (with_list (roster_source r) t) ≡ true → GoodStart (Some file) list
    go (applications names) q true w e = record { file = file; names = names; same = refl; good = q; listed = w }
    go (applications names) q false w e = absurd (false≢true e)
    go (faulty fault) q t w e = absurd (false≢true e)

module _ (roster : Option ℤ) (registry list : List ℕ) (s : Source) (r : StartRead roster registry list s) where
  pub good_read : is_good s ≡ true → GoodStart r.roster list
  good_read good = good_start r.roster list (sym (ap is_good r.is) ∙ good)

  pub good_registry : (good : is_good s ≡ true) → registry ≡ registry_of (good_read good).names
  unfolding Starts
  good_registry good = let g = good_read good in r.registered g.file g.names g.same g.good

  pub ready : Ready registry list s
  unfolding Ready
  ready good =
      let g = good_read good in
      (ap well_formed_registry (good_registry good) ∙ registry_good g.names (roster_legal g.file g.names g.good), g.listed)

pub ready_good : (registry list : List ℕ) {s : Source} → s ≡ Ok tt → Ready registry list s
    → (well_formed_registry registry ≡ true) × (well_formed_list list ≡ true)
unfolding Ready
ready_good registry list e f = f (ap is_good e)

-- the bill of a start that is refused is its line
pub start_bills : (roster stream list : Option (List ℕ)) → is_good (with_file (start_of roster list) (is_read stream)) ≡ false
    → line_of (with_file (start_of roster list) (is_read stream)) ≡ bill roster stream list
unfolding bill bill_for bills.is_list_refused is_read start_of roster_start roster_source list_checked with_list with_file line_of
start_bills None None list e = refl
start_bills None (Some stream) None e = refl
start_bills None (Some stream) (Some list) e = refl
start_bills (Some roster) None list e = refl
start_bills (Some roster) (Some stream) None e = refl
start_bills (Some roster) (Some stream) (Some list) e = go (roster_of roster) (well_formed_list list) refl e
  where
    go : (r : Roster) (t : Bool) → well_formed_list list ≡ t → is_good (with_list (roster_source r) t) ≡ false
        → line_of (with_list (roster_source r) t) ≡ (when bills.is_list_refused r list then refused_list else bill_for list r stream)
    go (applications names) true q e = absurd (true≢false e)
    go (applications names) false q e = rw q refl
    go (faulty fault) t q e = refl

-- ---- a stream that was read

module _ (s : Source) (registry list : List ℕ) (is_whole : Bool) (m : Memory) {f : Option ℤ} where
  pub stream_missing : f ≡ None → is_whole ≡ false → StreamRead f s registry list is_whole m
  unfolding StreamRead
  stream_missing e w = rw e w

  module _ {fd : ℤ} (e : f ≡ Some fd) where
    pub stream_good : After list registry counter_most m → StreamRead f s registry list is_whole m
    unfolding StreamRead StreamTaken
    stream_good a = rw e (λ good. a)

    pub stream_refused : is_good s ≡ false → StreamRead f s registry list is_whole m
    unfolding StreamRead StreamTaken
    stream_refused bad = rw e (λ good. absurd (false≢true (sym bad ∙ good)))

-- ---- what a stream leaves in memory has a bill

module _ (registry list : List ℕ) (good : well_formed_registry registry ≡ true) (most : ℕ) (m : Memory) (a : After list registry most m) where
  after_connected : well_formed_connection m.connection ≡ true
  unfolding memory_of
  after_connected =
      ap (λ (x : Memory). well_formed_connection x.connection) a.memory
      ∙ stored_good (rules (judgement list) registry a.stream).state.connection (rules_connection (judgement list) registry a.stream)

  after_registered : well_formed_registry m.registry ≡ true
  unfolding memory_of
  after_registered =
      ap (λ (x : Memory). well_formed_registry x.registry) a.memory
      ∙ (rules_kept largest_count well_formed_registry (judgement list) (keeps list) registry good a.stream).good

pub billable : (stream : Option ℤ) (registry list : List ℕ) (m : Memory) (s : Source) (is_whole : Bool) → Ready registry list s
    → StreamRead stream s registry list is_whole m → Billable (with_file s is_whole) m
unfolding Ready StreamRead StreamTaken Billable with_file
billable stream registry list m s false f g e = absurd (false≢true e)
billable None registry list m s true f g e = absurd (false≢true (sym g))
billable (Some fd) registry list m s true f g e =
    (after_connected registry list (f e).0 counter_most m (g e), after_registered registry list (f e).0 counter_most m (g e))
