-- What one request does to the counts of an application: a use adds one to one of them, and any other that destroys no key leaves
-- them as they are.
use Rattle.std.proofs.Common.{Option, Some, None, is_some, option_and_then}
use mathlib.Core.Path.{◌≡◌, refl, sym, ap, ap₂, ◌∙◌, subst}
use mathlib.Core.Bool.{Bool, true, false, true≢false, not, ◌&&◌}
use mathlib.Core.List.{List, [], ◌∷◌, map}
use Prim.Native.Nat.{ℕ, ◌<◌}
use native.Mathlib.Omega.{arith}
use borrow.Author.Tests.{eq-eqb, eqb-true}
use lib.ListN.{length, get_or, set, length-map}
use lib.Seq.{set-get_or}
use lib.Dec.{ltb, eqb}
use Rattle.wire.specs.Choice.{first_of}
use Rattle.wire.specs.Lists.{same}
use Rattle.wire.specs.Request.{Request, request_of}
use Rattle.wire.proofs.TestLaws.{some≢none, not_across, every_at, first_has, either}
use Rattle.wire.proofs.ListLaws.{all_at, map_at, same_refl}
use Rattle.keys.specs.Key.{Key, import_bits}
use Rattle.keys.specs.Names.{legal_name, key_name_most, is_new}
use Rattle.messages.specs.Format.{Format}
use Rattle.messages.specs.Formats.{format_of, format_for}
use Rattle.messages.specs.Operations.{Operation, ping, list_providers, list_opcodes, import_key, destroy_key, export_public_key, verify_signature, Asking, asks, garbled, asked as asking, operation_of}
use Rattle.registry.specs.Slots.{Entry, free, held, name_of, used}
use Rattle.registry.specs.Registry.{line_count, slots_of, uses_of, slot_named, Change, unchanged, fill, add_use, changed}
use Rattle.registry.specs.WellFormed.{well_formed_registry}
use Rattle.registry.specs.declared.Line.{Line}
use Rattle.registry.specs.declared.Slot.{Slot}
use Rattle.registry.proofs.SlotLaws.{Legal}
use Rattle.registry.proofs.RegistryLaws.{found_below, found_name, found_none, slot_below}
use Rattle.registry.proofs.UseLaws.{length_uses, filled_uses, added_uses, free_unused}
use Rattle.shipped.specs.Shipped.{ListedKey, keys_in}
use Rattle.lookup.specs.Lookup.{Source, own, listed, key_of, own_in, key_named}
use Rattle.lookup.proofs.LookupLaws.{own_named}
use Rattle.rsa.specs.Signature.{verification}
use Rattle.rsa.specs.declared.verify.Outcome.{Outcome}
use Rattle.rsa.specs.declared.verify.Outcome.TheVariants.{ValidSignature, InvalidSignature, InvalidKey}
use Rattle.stream.specs.Frame.{legal_start, oversized}
use Rattle.judgement.specs.Status.{status_number}
use Rattle.judgement.specs.Operations.{Result, success, refuse, refuse_at, perform_import, counted, export_of, perform_export, hash_size, checked, verify_with, perform_verify, perform_list_opcodes, perform, operated}
use Rattle.judgement.specs.Counts.{no_counts}
use Rattle.judgement.specs.Judgement.{application_of, refusals, askers_slots, result_of}
use Rattle.judgement.specs.declared.Status.{Status}
use Rattle.judgement.proofs.SourceLaws.{own_there}
use Rattle.judgement.proofs.ImportLaws.{import_ends}
use Rattle.judgement.proofs.JudgementLaws.{taken_legal}
use Rattle.judgement.proofs.AskerLaws.{Refusing, all_refusing}
use Rattle.judgement.proofs.VerdictLaws.{ServedFor, untouched, asked_registry}
use Rattle.uses.specs.Uses.{asked, key_used, key_destroyed, is_for, is_served, is_own, is_use, destroys_key, registry_after}

-- ---- whose key a name stands for

module _ (name : List ℕ) (slots : List Entry) where
  found_own : (slot : Slot) → slot_named name slots ≡ Some slot → is_own slots (Some name) ≡ true
  unfolding is_own
  found_own slot e = ap not (go (is_new name (map name_of slots)) refl)
    where
      there : same name (get_or (map name_of slots) slot.0 []) ≡ true
      there = ap (same name) (map_at name_of slots slot.0 free [] (found_below name slots slot e) ∙ found_name name slots slot e) ∙ same_refl name

      go : (t : Bool) → is_new name (map name_of slots) ≡ t → t ≡ false
      go false q = refl
      go true q =
          let below : slot.0 < length (map name_of slots) = rw (length-map slots name_of) (found_below name slots slot e) in
          absurd (true≢false (sym (all_at (λ y. not (same name y)) [] (map name_of slots) slot.0 below q) ∙ ap not there))

  listed_other : (keys : List ListedKey) (key : Key) → key_named name slots keys ≡ Some (listed key) → is_own slots (Some name) ≡ false
  unfolding is_own own_in
  listed_other keys key e = go (slot_named name slots) refl
    where
      not_listed : (slot : Slot) (entry : Entry) → own_in slot entry ≡ Some (listed key) → ⊥
      not_listed slot free w = some≢none (listed key) (sym w)
      not_listed slot (held k) w = true≢false cc

      go : (f : Option Slot) → slot_named name slots ≡ f → not (is_new name (map name_of slots)) ≡ false
      go (Some slot) q = absurd (not_listed slot (get_or slots slot.0 free) (sym (own_named name slots keys slot q) ∙ e))
      go None q = ap not (found_none name slots q)

-- ---- how an operation ends

data Ended (slots : List Entry) (operation : Option Operation) (x : Result) : Type 0 where
  refuses : eqb (status_number x.status) 0 ≡ false → Ended slots operation x
  destroys : is_some (option_and_then key_destroyed operation) ≡ true → Ended slots operation x
  rests : x.change ≡ unchanged → is_own slots (option_and_then key_used operation) ≡ false → Ended slots operation x
  imports : (slot : Slot) (key : Key) → x.change ≡ fill slot key → Legal key → slot_named [] slots ≡ Some slot
      → is_own slots (option_and_then key_used operation) ≡ false → Ended slots operation x
  uses : (slot : Slot) (name : List ℕ) → x.change ≡ add_use slot → slot_named name slots ≡ Some slot
      → is_own slots (option_and_then key_used operation) ≡ true → Ended slots operation x

Still : Result → Type 0
Still x = x.change ≡ unchanged

export_still : (key : Key) → Still (export_of key)
unfolding export_of success refuse Still
export_still key = either Still key.export_allowed (λ _. refl) (λ _. refl)

verify_still : (hash signature : List ℕ) (key : Key) → Still (verify_with hash signature key)
unfolding verify_with checked success refuse Still
verify_still hash signature key =
    either Still (not key.verify_allowed) (λ _. refl)
    (λ _. either Still (not (eqb (length hash) hash_size)) (λ _. refl)
    (λ _. either Still (not (import_bits key.bits)) (λ _. refl)
    (λ _. by_outcome (verification key.bytes key.bits hash signature).outcome)))
  where
    by_outcome : (outcome : Outcome) → Still (checked outcome)
    by_outcome ValidSignature = refl
    by_outcome InvalidKey = refl
    by_outcome InvalidSignature = refl

module _ (slots : List Entry) (keys : List ListedKey) where
  by_source : (operation : Operation) (name : List ℕ) → key_used operation ≡ Some name → (source : Source) → key_named name slots keys ≡ Some source
      → (x : Result) → Still x → Ended slots (Some operation) (counted source x)
  unfolding counted Still
  by_source operation name k (own slot key) e x still =
      let there = own_there name slots keys slot key e in
      either (Ended slots (Some operation)) (eqb (status_number x.status) 0)
      (λ s. uses slot name refl there (ap (is_own slots) k ∙ found_own name slots slot there))
      (λ s. refuses s)
  by_source operation name k (listed key) e x still = rests still (ap (is_own slots) k ∙ listed_other name slots keys key e)

  by_import : (key : Key) → Ended slots (Some (import_key key)) (perform_import key slots keys)
  unfolding perform_import success refuse key_used is_own
  by_import key = import_ends import_bits slots keys key (Ended slots (Some (import_key key))) (λ status z _. refuses z)
      (λ slot t n e. imports slot key refl (taken_legal key t) e refl)

  by_export : (name : List ℕ) → Ended slots (Some (export_public_key name)) (perform_export name slots keys)
  unfolding perform_export status_number refuse key_used
  by_export name = go (legal_name key_name_most name) refl
    where
      second : legal_name key_name_most name ≡ true → (o : Option Source) → key_named name slots keys ≡ o
          → Ended slots (Some (export_public_key name)) (perform_export name slots keys)
      second v None e = rw (v, e, perform_export) (refuses refl)
      second v (Some source) e = rw (v, e, perform_export) (by_source (export_public_key name) name refl source e _ (export_still (key_of source)))

      go : (t : Bool) → legal_name key_name_most name ≡ t → Ended slots (Some (export_public_key name)) (perform_export name slots keys)
      go false e = rw (e, perform_export) (refuses refl)
      go true e = second e (key_named name slots keys) refl

  by_verify : (name hash signature : List ℕ) → Ended slots (Some (verify_signature name hash signature)) (perform_verify name hash signature slots keys)
  unfolding perform_verify status_number refuse key_used
  by_verify name hash signature = go (legal_name key_name_most name) refl
    where
      second : legal_name key_name_most name ≡ true → (o : Option Source) → key_named name slots keys ≡ o
          → Ended slots (Some (verify_signature name hash signature)) (perform_verify name hash signature slots keys)
      second v None e = rw (v, e, perform_verify) (refuses refl)
      second v (Some source) e =
          rw (v, e, perform_verify) (by_source (verify_signature name hash signature) name refl source e _ (verify_still hash signature (key_of source)))

      go : (t : Bool) → legal_name key_name_most name ≡ t → Ended slots (Some (verify_signature name hash signature)) (perform_verify name hash signature slots keys)
      go false e = rw (e, perform_verify) (refuses refl)
      go true e = second e (key_named name slots keys) refl

  by_operation : (operation : Operation) → Ended slots (Some operation) (perform operation slots keys)
  unfolding perform perform_list_opcodes status_number success refuse key_used key_destroyed is_own
  by_operation ping = rests refl refl
  by_operation list_providers = rests refl refl
  by_operation (list_opcodes provider) = either (Ended slots (Some (list_opcodes provider))) (ltb 1 provider) (λ _. refuses refl) (λ _. rests refl refl)
  by_operation (import_key key) = by_import key
  by_operation (destroy_key name) = destroys refl
  by_operation (export_public_key name) = by_export name
  by_operation (verify_signature name hash signature) = by_verify name hash signature

  by_body : (format : Format) (opcode : ℕ) (body : List ℕ) → Ended slots (operation_of format opcode body) (operated format opcode body slots keys)
  unfolding operation_of operated status_number refuse_at
  by_body format opcode body = go (asking format opcode body) refl
    where
      go : (a : Asking) → asking format opcode body ≡ a → Ended slots (operation_of format opcode body) (operated format opcode body slots keys)
      go (garbled at) e = rw (e, operation_of, operated) (refuses refl)
      go (asks operation) e = rw (e, operation_of, operated) (by_operation operation)

ended : (list r request : List ℕ) → Ended (askers_slots r (application_of r (request_of request))) (asked request) (result_of list r (request_of request))
unfolding result_of asked refuse
ended list r request = go (first_of (refusals r q)) refl
  where
    q : Request
    q = request_of request

    go : (o : Option Status) → first_of (refusals r q) ≡ o → Ended (askers_slots r (application_of r q)) (asked request) (result_of list r q)
    go (Some status) e = rw (e, result_of) (refuses (first_has Refusing (refusals r q) (all_refusing r q) status e))
    go None e = rw (e, result_of) (by_body (askers_slots r (application_of r q)) (keys_in list) (format_of (format_for q.content_type)) q.opcode q.body)

-- ---- what it does to the counts

-- of counts, what they become, and whether that is a use
pub data Step (before after : List ℕ) (use' : Bool) : Type 0 where
  stays : after ≡ before → use' ≡ false → Step before after use'
  adds : (k : ℕ) → k < length before → after ≡ set before k (used (get_or before k 0)) → use' ≡ true → Step before after use'

module _ (list r : List ℕ) (w : well_formed_registry r ≡ true) (line : Line) (hl : line.0 < line_count) (request : List ℕ) where
  abbrev q : Request
  q = request_of request

  abbrev x : Result
  x = result_of list r q

  abbrev after : List ℕ
  after = registry_after list r request

  served_is : ServedFor list r line request → is_served list line r request ≡ true
  unfolding is_served is_for
  served_is s = rw (s.legal, s.small, s.asker, eq-eqb line.0 line.0 refl, eq-eqb (status_number x.status) 0 s.status)

  unserved_stays : is_served list line r request ≡ false → uses_of after line ≡ uses_of r line
  unfolding registry_after
  unserved_stays e = (untouched list r w no_counts line hl request (λ s. true≢false (sym (served_is s) ∙ e))).uses

  module _ (served : is_served list line r request ≡ true) where
    tests : List Bool
    tests = legal_start request ∷ not (oversized request) ∷ is_for line (application_of r q) ∷ eqb (status_number x.status) 0 ∷ []

    test : (k : ℕ) → get_or tests k true ≡ true
    unfolding tests is_served
    test k = every_at tests k served

    application : application_of r q ≡ Some line
    unfolding is_for tests
    application = go (application_of r q) (test 2)
      where
        go : (o : Option Line) → is_for line o ≡ true → o ≡ Some line
        go None e = absurd (true≢false (sym e))
        go (Some l) e = ap Some (λ i. record { 0 = eqb-true l.0 line.0 e i })

    served_after_lem : after ≡ changed r line x.change
    unfolding registry_after tests
    served_after_lem = asked_registry list r w no_counts line hl request (test 0) (not_across (oversized request) true (test 1)) application

    served_step : destroys_key list line r request ≡ false → Step (uses_of r line) (uses_of after line) (is_use list line r request)
    unfolding is_use destroys_key askers_slots tests changed
    served_step kept = go (subst (λ (o : Option Line). Ended (askers_slots r o) (asked request) x) application (ended list r request))
      where
        use_own : (t : Bool) → is_own (slots_of r line) (option_and_then key_used (asked request)) ≡ t → is_use list line r request ≡ t
        use_own t e = ap₂ ◌&&◌ served e

        made : (c : Change) → x.change ≡ c → uses_of after line ≡ uses_of (changed r line c) line
        made c e = ap (λ (s : List ℕ). uses_of s line) (served_after_lem ∙ ap (changed r line) e)

        go : Ended (slots_of r line) (asked request) x → Step (uses_of r line) (uses_of after line) (is_use list line r request)
        go (refuses e) = absurd (true≢false (sym (test 3) ∙ e))
        go (destroys e) = absurd (true≢false (sym (ap₂ ◌&&◌ served e) ∙ kept))
        go (rests e u) = stays (made unchanged e) (use_own false u)
        go (imports slot key e legal s u) =
            let hk = slot_below r line [] slot s in
            let none_yet = free_unused r w line hl slot hk (found_name [] (slots_of r line) slot s) in
            stays
            (made (fill slot key) e ∙ filled_uses r w line hl slot hk key legal
            ∙ ap (set (uses_of r line) slot.0) (sym none_yet) ∙ set-get_or (uses_of r line) slot.0 0)
            (use_own false u)
        go (uses slot name e s u) =
            let hk = slot_below r line name slot s in
            adds slot.0 (omega (arith, length_uses r line)) (made (add_use slot) e ∙ added_uses r w line hl slot hk) (use_own true u)

  pub request_step : destroys_key list line r request ≡ false → Step (uses_of r line) (uses_of after line) (is_use list line r request)
  unfolding is_use
  request_step kept = go (is_served list line r request) refl
    where
      go : (t : Bool) → is_served list line r request ≡ t → Step (uses_of r line) (uses_of after line) (is_use list line r request)
      go true e = served_step e kept
      go false e = stays (unserved_stays e) (rw e)
