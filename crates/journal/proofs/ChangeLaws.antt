-- WHAT IS RECORDED IS WHAT CHANGES: the record of a served request is told by its change alone.
use Rattle.std.proofs.Common.{Option, Some, None}
use mathlib.Core.Path.{◌≡◌, refl, sym, ap, subst, ◌∙◌}
use mathlib.Core.Bool.{Bool, true, false, true≢false, false≢true}
use mathlib.Core.List.{List}
use Prim.Native.Nat.{ℕ, ◌+◌, ◌-◌, ◌≤◌, ◌<◌, min}
use native.Mathlib.Omega.{arith}
use borrow.Author.Tests.{eqb-true, eqb-false}
use lib.ListN.{length, take, drop, get_or, length-take}
use lib.Seq.{get_or-take, get_or-drop, drop-drop}
use lib.Dec.{eqb}
use Rattle.wire.specs.Request.{Request}
use Rattle.wire.specs.Lists.{every}
use Rattle.wire.proofs.TestLaws.{every_at}
use Rattle.wire.proofs.ListLaws.{part_of_part}
use Rattle.keys.specs.Names.{legal_name, key_name_most}
use Rattle.keys.specs.Key.{Key, import_bits}
use Rattle.keys.proofs.NameLaws.{legal_short}
use Rattle.messages.specs.Formats.{format_of, format_for}
use Rattle.messages.specs.Operations.{Operation, ping, list_providers, list_opcodes, import_key, destroy_key, export_public_key, verify_signature, Asking, asks as asksFor, garbled, asked as asking, operation_in, operation_of}
use Rattle.registry.specs.Names.{name_in}
use Rattle.registry.specs.Slots.{Entry, free, name_of, slot_size, key_tests, well_formed_slot}
use Rattle.registry.specs.Registry.{line_count, slot_count, slots_of, Change, unchanged, fill, clear, add_use, place}
use Rattle.registry.specs.WellFormed.{well_formed_registry}
use Rattle.registry.specs.declared.Line.{Line}
use Rattle.registry.specs.declared.Slot.{Slot}
use Rattle.registry.proofs.SlotLaws.{name_of_lem, key_slot}
use Rattle.registry.proofs.RegistryLaws.{found_name, slot_there_lem}
use Rattle.registry.proofs.WellFormedLaws.{slot_good}
use Rattle.shipped.specs.Shipped.{ListedKey, keys_in}
use Rattle.lookup.specs.Lookup.{Source, own, listed, key_named}
use Rattle.judgement.specs.Status.{status_number}
use Rattle.judgement.specs.Operations.{Result, success, refuse, refuse_at, perform_import, destroy_of, perform_destroy, perform_list_opcodes, perform, operated}
use Rattle.judgement.specs.Judgement.{application_of, askers_slots, result_of}
use Rattle.judgement.proofs.SourceLaws.{own_there}
use Rattle.judgement.proofs.ImportLaws.{import_ends}
use Rattle.judgement.proofs.AskerLaws.{served_passes}
use Rattle.judgement.proofs.Results.{served_status, by_result}
use Rattle.journal.specs.Record.{Act, importing, destroying}
use Rattle.journal.specs.Journalling.{act_of, act_asked, served_act, record_for}
use Rattle.journal.specs.Record.{record_most}
use Rattle.journal.specs.code.Written.{act_of_change, act_of_asker}
use Rattle.journal.proofs.RecordLaws.{length_record}
use Rattle.journal.proofs.ReplayLaws.{recorded, Rests, opcodes_rest, export_rests, verify_rests, Alike, replay_any, replay_short, served_replayed, refused_unrecorded}

abbrev is_served : Result → Bool
is_served x = eqb (status_number x.status) 0

rests_none : (slots : List Entry) (line : Line) (c : Change) → recorded c ≡ unchanged → None ≡ act_of_change slots line c
unfolding act_of_change recorded
rests_none slots line unchanged e = refl
rests_none slots line (add_use slot) e = refl
rests_none slots line (fill slot key) e = absurd (true≢false (ap is_fill e))
  where
    is_fill : Change → Bool
    is_fill unchanged = false
    is_fill (fill s k) = true
    is_fill (clear s) = true
    is_fill (add_use s) = false
rests_none slots line (clear slot) e = absurd (true≢false (ap is_fill e))
  where
    is_fill : Change → Bool
    is_fill unchanged = false
    is_fill (fill s k) = true
    is_fill (clear s) = true
    is_fill (add_use s) = false

module _ (slots : List Entry) (keys : List ListedKey) (line : Line) where
  import_act : (key : Key) → is_served (perform_import key slots keys) ≡ true → Some (importing line key) ≡ act_of_change slots line (perform_import key slots keys).change
  unfolding perform_import refuse success act_of_change
  import_act key = import_ends import_bits slots keys key (λ (x : Result). is_served x ≡ true → Some (importing line key) ≡ act_of_change slots line x.change)
      (λ status z _ s. absurd (false≢true (sym z ∙ s))) (λ slot t n e s. refl)

  destroy_act : (name : List ℕ) → is_served (perform_destroy name slots keys) ≡ true → Some (destroying line name) ≡ act_of_change slots line (perform_destroy name slots keys).change
  unfolding perform_destroy destroy_of refuse success status_number act_of_change
  destroy_act name s = first (legal_name key_name_most name) refl
    where
      second : legal_name key_name_most name ≡ true → (o : Option Source) → key_named name slots keys ≡ o
          → Some (destroying line name) ≡ act_of_change slots line (perform_destroy name slots keys).change
      second v None e = absurd (false≢true (rw (v, e, perform_destroy) at s))
      second v (Some (listed key)) e = absurd (false≢true (rw (v, e, perform_destroy) at s))
      second v (Some (own slot key)) e =
          rw (v, e, perform_destroy) (ap (λ (n : List ℕ). Some (destroying line n)) (sym (found_name name slots slot (own_there name slots keys slot key e))))

      first : (t : Bool) → legal_name key_name_most name ≡ t → Some (destroying line name) ≡ act_of_change slots line (perform_destroy name slots keys).change
      first false e = absurd (false≢true (rw (e, perform_destroy) at s))
      first true e = second e (key_named name slots keys) refl

  operation_act : (operation : Operation) → is_served (perform operation slots keys) ≡ true → act_of line operation ≡ act_of_change slots line (perform operation slots keys).change
  unfolding perform act_of success act_of_change Rests
  operation_act ping s = refl
  operation_act list_providers s = refl
  operation_act (list_opcodes provider) s = rests_none slots line (perform_list_opcodes provider).change (opcodes_rest provider)
  operation_act (import_key key) s = import_act key s
  operation_act (destroy_key name) s = destroy_act name s
  operation_act (export_public_key name) s = rests_none slots line _ (export_rests slots keys name)
  operation_act (verify_signature name hash signature) s = rests_none slots line _ (verify_rests slots keys name hash signature)

module _ (list r : List ℕ) (q : Request) where
  abbrev x : Result
  x = result_of list r q

  abbrev asker : Option Line
  asker = application_of r q

  by_asker : (o : Option Line) (operation : Operation) → is_served (perform operation (askers_slots r o) (keys_in list)) ≡ true
      → act_asked o (Some operation) ≡ act_of_asker (askers_slots r o) o (perform operation (askers_slots r o) (keys_in list)).change
  unfolding act_asked act_of_asker
  by_asker None operation s = refl
  by_asker (Some line) operation s = operation_act (askers_slots r (Some line)) (keys_in list) line operation s

  served_act_lem : is_served x ≡ true → act_asked asker (operation_of (format_of (format_for q.content_type)) q.opcode q.body) ≡ act_of_asker (askers_slots r asker) asker x.change
  unfolding operation_of
  served_act_lem s = second (asking (format_of (format_for q.content_type)) q.opcode q.body) refl
    where
      is : x ≡ operated (format_of (format_for q.content_type)) q.opcode q.body (askers_slots r asker) (keys_in list)
      is = unfold result_of in rw (served_passes list r q (eqb-true _ _ s), result_of)

      second : (a : Asking) → asking (format_of (format_for q.content_type)) q.opcode q.body ≡ a → act_asked asker (operation_in a) ≡ act_of_asker (askers_slots r asker) asker x.change
      second (garbled at) w =
          let y : x ≡ refuse_at at = is ∙ (unfold operated in rw (w, operated)) in
          absurd (true≢false (sym s ∙ ap is_served y ∙ (unfold refuse_at status_number in refl)))
      second (asksFor operation) w =
          let y : x ≡ perform operation (askers_slots r asker) (keys_in list) = is ∙ (unfold operated in rw (w, operated)) in
          by_asker asker operation (ap is_served (sym y) ∙ s)
          ∙ ap (λ (z : Result). act_of_asker (askers_slots r asker) asker z.change) (sym y)

  Kept : Result → Type 0
  Kept y = (status_number y.status ≡ 0 → ⊥) → y.change ≡ unchanged

  unserved_still : Kept x
  unfolding Kept refuse refuse_at success status_number
  unserved_still = by_result list r q Kept (record {
    refused = λ status h. refl;
    broken = λ at h. refl;
    served = λ output h n. refl;
    imported = λ slot key v n e h. absurd (h refl);
    destroyed = λ slot name e h. absurd (h refl);
    exported = λ source name e h. absurd (h (ap status_number (served_status source _)));
    verified = λ source name e h. absurd (h (ap status_number (served_status source _)));
  })

  nobody_stays : (o : Option Line) → None ≡ act_of_asker (askers_slots r o) o unchanged
  unfolding act_of_asker act_of_change
  nobody_stays None = refl
  nobody_stays (Some line) = refl

  -- THE RECORD OF A REQUEST is that of its change, on the registry before it
  pub act_changed : served_act list r q ≡ act_of_asker (askers_slots r asker) asker x.change
  unfolding served_act Kept
  act_changed = go (is_served x) refl
    where
      go : (t : Bool) → is_served x ≡ t → served_act list r q ≡ act_of_asker (askers_slots r asker) asker x.change
      go true e = rw (e, served_act) (served_act_lem e)
      go false e = rw (e, served_act) (nobody_stays asker ∙ ap (act_of_asker (askers_slots r asker) asker) (sym (unserved_still (eqb-false _ _ e))))

-- NO RECORD IS LONGER than that of the longest import
pub record_short : (list r : List ℕ) (q : Request) → length (record_for (served_act list r q)) ≤ record_most
record_short list r q = go (is_served (result_of list r q)) refl
  where
    self : Alike r r
    self = record { names = refl; slots = λ line u. refl }

    short : (o : Option Act) (after : List ℕ) → replay_any r o ≡ Some after → length (record_for o) ≤ record_most
    short None after e = unfold record_for in omega arith
    short (Some act) after e = unfold record_for replay_any in omega (arith, length_record act, replay_short r act after e)

    go : (t : Bool) → is_served (result_of list r q) ≡ t → length (record_for (served_act list r q)) ≤ record_most
    go true e = short (served_act list r q) _ (served_replayed list r r self q e)
    go false e = subst (λ (o : Option Act). length (record_for o) ≤ record_most) (sym (refused_unrecorded list r r self q e)) (unfold record_for in omega arith)

-- ---- the name of a slot, where it lies

module _ (r : List ℕ) (line : Line) (slot : Slot) (hk : slot.0 < slot_count) where
  abbrev s : List ℕ
  s = take slot_size (drop (place line slot) r)

  name_is : name_of (get_or (slots_of r line) slot.0 free) ≡ name_in s
  name_is = ap name_of (slot_there_lem r line slot.0 hk) ∙ name_of_lem s

  pub name_at_lem : (n : ℕ) → n ≡ get_or r (place line slot) 0 → n < 256
      → take (place line slot + 1 + n - (place line slot + 1)) (drop (place line slot + 1) r) ≡ name_of (get_or (slots_of r line) slot.0 free)
  name_at_lem n e h =
      let first : get_or s 0 0 ≡ n
      = get_or-take slot_size (drop (place line slot) r) 0 0 (omega arith) ∙ get_or-drop (place line slot) r 0 0
      ∙ ap (λ (k : ℕ). get_or r k 0) (let z : place line slot + 0 ≡ place line slot = omega arith in z) ∙ sym e in
      let size : place line slot + 1 + n - (place line slot + 1) ≡ n = omega arith in
      ap (λ (k : ℕ). take k (drop (place line slot + 1) r)) size
      ∙ ap (take n) (sym (drop-drop 1 (place line slot) r))
      ∙ sym (part_of_part n 1 slot_size (drop (place line slot) r) (omega arith))
      ∙ ap (λ (k : ℕ). take k (drop 1 s)) (sym first)
      ∙ sym name_is

  pub name_short : well_formed_registry r ≡ true → line.0 < line_count → length (name_of (get_or (slots_of r line) slot.0 free)) ≤ key_name_most
  name_short w hl = go (eqb (get_or s 0 0) 0) refl
    where
      good : well_formed_slot s ≡ true
      good = slot_good r w line.0 slot.0 hl hk

      go : (t : Bool) → eqb (get_or s 0 0) 0 ≡ t → length (name_of (get_or (slots_of r line) slot.0 free)) ≤ key_name_most
      go true q =
          let none_there : length (name_in s) ≡ min (get_or s 0 0) (length (drop 1 s)) = length-take (get_or s 0 0) (drop 1 s) in
          omega (arith, ap length name_is, none_there, eqb-true (get_or s 0 0) 0 q)
      go false q =
          let tests : every (key_tests s) ≡ true = sym (key_slot s (eqb-false _ _ q)) ∙ good in
          omega (arith, ap length name_is, legal_short key_name_most (name_in s) (every_at (key_tests s) 0 tests))
