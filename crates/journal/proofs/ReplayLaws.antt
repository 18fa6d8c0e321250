-- WHAT A REQUEST CHANGES IS WHAT REPLAYING ITS RECORD CHANGES, counts of uses aside.
use Rattle.std.proofs.Common.{Option, Some, None}
use mathlib.Core.Path.{◌≡◌, refl, sym, ap, ◌∙◌}
use mathlib.Core.Bool.{Bool, true, false, true≢false, false≢true, not, ◌&&◌}
use mathlib.Core.List.{List, []}
use Prim.Native.Nat.{ℕ, ◌≤◌}
use native.Mathlib.Omega.{arith}
use borrow.Author.Tests.{lt-ltb, eqb-true}
use lib.ListN.{length, get_or, length-append}
use lib.Dec.{ltb, eqb}
use Rattle.wire.specs.Choice.{when◌then◌else◌}
use Rattle.wire.specs.Numbers.{little_endian_of}
use Rattle.wire.specs.Request.{Request}
use Rattle.wire.proofs.TestLaws.{some≢none, either}
use Rattle.keys.specs.Names.{legal_name, key_name_most}
use Rattle.keys.specs.Key.{Key, legal_bits, import_bits}
use Rattle.keys.proofs.KeyLaws.{import_legal}
use Rattle.keys.proofs.NameLaws.{legal_short}
use Rattle.messages.specs.Formats.{format_of, format_for}
use Rattle.messages.specs.Operations.{Operation, ping, list_providers, list_opcodes, import_key, destroy_key, export_public_key, verify_signature, Asking, asks as asksFor, garbled, asked as asking, operation_in, operation_of}
use Rattle.registry.specs.Slots.{Entry}
use Rattle.registry.specs.Registry.{names_in, slots_of, Change, unchanged, fill, clear, add_use, changed}
use Rattle.registry.specs.WellFormed.{is_used}
use Rattle.registry.specs.declared.Line.{Line}
use Rattle.registry.proofs.SlotLaws.{short_name, short_data}
use Rattle.registry.proofs.RegistryLaws.{Used}
use Rattle.shipped.specs.Shipped.{ListedKey, keys_in, listed_named}
use Rattle.lookup.specs.Lookup.{Source, own, listed, key_of, own_in, listed_in, key_named}
use Rattle.lookup.proofs.LookupLaws.{own_named, none_own}
use Rattle.rsa.specs.Signature.{verification}
use Rattle.rsa.specs.declared.verify.Outcome.{Outcome}
use Rattle.rsa.specs.declared.verify.Outcome.TheVariants.{ValidSignature, InvalidSignature, InvalidKey}
use Rattle.judgement.specs.Status.{status_number}
use Rattle.judgement.specs.Operations.{Result, success, refuse, refuse_at, import_by, perform_import, destroy_of, perform_destroy, counted, export_of, perform_export, hash_size, checked, verify_with, perform_verify, perform_list_opcodes, perform, operated}
use Rattle.judgement.specs.Judgement.{application_of, askers_slots, result_of}
use Rattle.judgement.proofs.SourceLaws.{own_there, own_held}
use Rattle.judgement.proofs.ImportLaws.{bounded_legal, Taken, imported, import_ends, new_there}
use Rattle.judgement.proofs.JudgementLaws.{asks}
use Rattle.judgement.proofs.AskerLaws.{served_passes}
use Rattle.journal.specs.Record.{Act, importing, destroying, value_of, value_most}
use Rattle.journal.specs.Replay.{in_use, carried_out, replay}
use Rattle.journal.specs.Journalling.{act_of, act_asked, served_act}

abbrev is_served : Result → Bool
is_served x = eqb (status_number x.status) 0

-- ---- what of a change the journal tells: a use is not recorded

unfoldable pub recorded : Change → Change
recorded unchanged = unchanged
recorded (fill slot key) = fill slot key
recorded (clear slot) = clear slot
recorded (add_use slot) = unchanged

unfoldable pub Rests : Result → Type 0
Rests x = recorded x.change ≡ unchanged

pub opcodes_rest : (provider : ℕ) → Rests (perform_list_opcodes provider)
unfolding perform_list_opcodes refuse success Rests recorded
opcodes_rest provider = either Rests (ltb 1 provider) (λ _. refl) (λ _. refl)

export_still : (key : Key) → (export_of key).change ≡ unchanged
unfolding export_of success refuse
export_still key = either (λ (x : Result). x.change ≡ unchanged) key.export_allowed (λ _. refl) (λ _. refl)

verify_still : (hash signature : List ℕ) (key : Key) → (verify_with hash signature key).change ≡ unchanged
unfolding verify_with checked success refuse
verify_still hash signature key =
    either Still (not key.verify_allowed) (λ _. refl)
    (λ _. either Still (not (eqb (length hash) hash_size)) (λ _. refl)
    (λ _. either Still (not (import_bits key.bits)) (λ _. refl)
    (λ _. by_outcome (verification key.bytes key.bits hash signature).outcome)))
  where
    Still : Result → Type 0
    Still x = x.change ≡ unchanged

    by_outcome : (outcome : Outcome) → Still (checked outcome)
    by_outcome ValidSignature = refl
    by_outcome InvalidKey = refl
    by_outcome InvalidSignature = refl

counted_rests : (source : Source) (x : Result) → x.change ≡ unchanged → Rests (counted source x)
unfolding counted Rests recorded
counted_rests (listed key) x e = ap recorded e
counted_rests (own slot key) x e = either Rests (is_served x) (λ _. refl) (λ _. ap recorded e)

module _ (slots : List Entry) (keys : List ListedKey) where
  pub export_rests : (name : List ℕ) → Rests (perform_export name slots keys)
  unfolding perform_export
  export_rests name = first (legal_name key_name_most name) refl
    where
      second : legal_name key_name_most name ≡ true → (o : Option Source) → key_named name slots keys ≡ o → Rests (perform_export name slots keys)
      second v None e = rw (v, e, perform_export) (unfold Rests recorded refuse in refl)
      second v (Some source) e = rw (v, e, perform_export) (counted_rests source _ (export_still (key_of source)))

      first : (t : Bool) → legal_name key_name_most name ≡ t → Rests (perform_export name slots keys)
      first false v = rw (v, perform_export) (unfold Rests recorded refuse in refl)
      first true v = second v (key_named name slots keys) refl

  pub verify_rests : (name hash signature : List ℕ) → Rests (perform_verify name hash signature slots keys)
  unfolding perform_verify
  verify_rests name hash signature = first (legal_name key_name_most name) refl
    where
      second : legal_name key_name_most name ≡ true → (o : Option Source) → key_named name slots keys ≡ o → Rests (perform_verify name hash signature slots keys)
      second v None e = rw (v, e, perform_verify) (unfold Rests recorded refuse in refl)
      second v (Some source) e = rw (v, e, perform_verify) (counted_rests source _ (verify_still hash signature (key_of source)))

      first : (t : Bool) → legal_name key_name_most name ≡ t → Rests (perform_verify name hash signature slots keys)
      first false v = rw (v, perform_verify) (unfold Rests recorded refuse in refl)
      first true v = second v (key_named name slots keys) refl

  -- ---- an import or a destroy that is served needs none of the keys that we ship

  pub import_taken : (takes : ℕ → Bool) (key : Key) → is_served (import_by takes key slots keys) ≡ true → Taken takes key
  unfolding refuse
  import_taken takes key = import_ends takes slots keys key (λ (x : Result). is_served x ≡ true → Taken takes key)
      (λ status z _ s. absurd (false≢true (sym z ∙ s))) (λ slot t n e s. t)

  -- what Import took, it took by 01's rule of bits
  pub import_replayed : (key : Key) → is_served (perform_import key slots keys) ≡ true → import_by legal_bits key slots [] ≡ perform_import key slots keys
  unfolding perform_import refuse
  import_replayed key = import_ends import_bits slots keys key (λ (x : Result). is_served x ≡ true → import_by legal_bits key slots [] ≡ x)
      (λ status z _ s. absurd (false≢true (sym z ∙ s))) (λ slot t n e s. imported legal_bits slots [] key (wider t) (alone t n) slot e)
    where
      wider : Taken import_bits key → Taken legal_bits key
      wider t = record { bounds = t.bounds; bits = import_legal key.bits t.bits }

      alone : Taken import_bits key → key_named key.name slots keys ≡ None → key_named key.name slots [] ≡ None
      alone t n = none_own key.name slots [] (new_there import_bits slots keys key t n) ∙ (unfold listed_in listed_named in refl)

  pub destroy_clears : (name : List ℕ) → is_served (perform_destroy name slots keys) ≡ true
      → (perform_destroy name slots [] ≡ perform_destroy name slots keys) × (legal_name key_name_most name ≡ true)
  unfolding perform_destroy destroy_of refuse status_number
  destroy_clears name s = first (legal_name key_name_most name) refl
    where
      second : legal_name key_name_most name ≡ true → (o : Option Source) → key_named name slots keys ≡ o
          → perform_destroy name slots [] ≡ perform_destroy name slots keys
      second v None e = absurd (false≢true (rw (v, e, perform_destroy) at s))
      second v (Some (listed key)) e = absurd (false≢true (rw (v, e, perform_destroy) at s))
      second v (Some (own slot key)) e =
          let alone : key_named name slots [] ≡ Some (own slot key) =
          own_named name slots [] slot (own_there name slots keys slot key e) ∙ ap (own_in slot) (own_held name slots keys slot key e) ∙ (unfold own_in in refl) in
          rw (v, e, alone, perform_destroy)

      first : (t : Bool) → legal_name key_name_most name ≡ t → (perform_destroy name slots [] ≡ perform_destroy name slots keys) × (legal_name key_name_most name ≡ true)
      first false e = absurd (false≢true (rw (e, perform_destroy) at s))
      first true e = (second e (key_named name slots keys) refl, e)

-- ---- an operation that is served

-- the registry after what was served, if it was an import or a destroy
unfoldable pub replay_any : (registry : List ℕ) → Option Act → Option (List ℕ)
replay_any registry None = Some registry
replay_any registry (Some act) = replay registry act

-- what a recorded change makes of a registry
unfoldable pub changed_for : (registry : List ℕ) → Option Line → Change → List ℕ
changed_for registry None change = registry
changed_for registry (Some line) change = changed registry line (recorded change)

-- the two have the same applications and keys
pub record Alike (g r : List ℕ) : Type 0 where
  pub names : names_in g ≡ names_in r
  pub slots : (line : Line) → Used r line → slots_of g line ≡ slots_of r line

module _ (g : List ℕ) where
  carried : (line : Line) (x : Result) → in_use g line ≡ true → is_served x ≡ true → carried_out g line x ≡ Some (changed g line x.change)
  unfolding carried_out
  carried line x u s = rw (u, s, carried_out)

  fill_told : (key : Key) (slots : List Entry) → recorded (import_by legal_bits key slots []).change ≡ (import_by legal_bits key slots []).change
  unfolding refuse success recorded
  fill_told key slots = import_ends legal_bits slots [] key (λ (x : Result). recorded x.change ≡ x.change) (λ status z _. refl) (λ slot t n e. refl)

  clear_told : (name : List ℕ) (slots : List Entry) → recorded (perform_destroy name slots []).change ≡ (perform_destroy name slots []).change
  unfolding perform_destroy destroy_of refuse success recorded
  clear_told name slots = first (legal_name key_name_most name) refl
    where
      second : legal_name key_name_most name ≡ true → (o : Option Source) → key_named name slots [] ≡ o
          → recorded (perform_destroy name slots []).change ≡ (perform_destroy name slots []).change
      second v None e = rw (v, e, perform_destroy)
      second v (Some (own slot key)) e = rw (v, e, perform_destroy)
      second v (Some (listed key)) e = rw (v, e, perform_destroy)

      first : (t : Bool) → legal_name key_name_most name ≡ t → recorded (perform_destroy name slots []).change ≡ (perform_destroy name slots []).change
      first false e = rw (e, perform_destroy)
      first true e = second e (key_named name slots []) refl

  -- replayed on the registry g, whose line has the slots on which the operation was served
  module _ (line : Line) (u : in_use g line ≡ true) (keys : List ListedKey) where
    abbrev slots : List Entry
    slots = slots_of g line

    line_served : (operation : Operation) → is_served (perform operation slots keys) ≡ true
        → replay_any g (act_of line operation) ≡ Some (changed g line (recorded (perform operation slots keys).change))
    unfolding act_of replay_any replay perform success recorded changed Rests
    line_served ping s = refl
    line_served list_providers s = refl
    line_served (list_opcodes provider) s = ap (λ c. Some (changed g line c)) (sym (opcodes_rest provider))
    line_served (import_key key) s =
        let alone = import_replayed slots keys key s in
        carried line (import_by legal_bits key slots []) u (ap is_served alone ∙ s)
        ∙ ap (λ c. Some (changed g line c)) (sym (fill_told key slots) ∙ ap (λ (x : Result). recorded x.change) alone)
    line_served (destroy_key name) s =
        let (alone, v) = destroy_clears slots keys name s in
        carried line (perform_destroy name slots []) u (ap is_served alone ∙ s)
        ∙ ap (λ c. Some (changed g line c)) (sym (clear_told name slots) ∙ ap (λ (x : Result). recorded x.change) alone)
    line_served (export_public_key name) s = ap (λ c. Some (changed g line c)) (sym (export_rests slots keys name))
    line_served (verify_signature name hash signature) s = ap (λ c. Some (changed g line c)) (sym (verify_rests slots keys name hash signature))

-- ---- what is carried out has a value that is not too long

pub served_carried : (r : List ℕ) (line : Line) (x : Result) (after : List ℕ) → carried_out r line x ≡ Some after → is_served x ≡ true
unfolding carried_out
served_carried r line x after e = go (in_use r line) (is_served x) e
  where
    go : (t u : Bool) → (let o : Option (List ℕ) = when t && u then Some (changed r line x.change) else None in o) ≡ Some after → u ≡ true
    go true true w = refl
    go true false w = absurd (some≢none after (sym w))
    go false u w = absurd (some≢none after (sym w))

pub replay_short : (r : List ℕ) (act : Act) (after : List ℕ) → replay r act ≡ Some after → length (value_of act) ≤ value_most
unfolding replay value_of little_endian_of
replay_short r (importing line key) after e =
    let t = import_taken (slots_of r line) [] legal_bits key (served_carried r line _ after e) in
    let legal = bounded_legal key t.bounds t.bits in
    omega (arith, short_name key legal, short_data key legal, length-append key.name key.bytes)
replay_short r (destroying line name) after e =
    omega (arith, legal_short key_name_most name (destroy_clears (slots_of r line) [] name (served_carried r line _ after e)).1)

-- ---- a request

module _ (list g r : List ℕ) (a : Alike g r) where
  in_use_lem : (line : Line) → Used r line → in_use g line ≡ true
  unfolding in_use
  in_use_lem line u =
      rw (lt-ltb _ _ u.there) (ap (λ (names : List (List ℕ)). is_used (get_or names line.0 [])) a.names ∙ u.used)

  asker_served : (o : Option Line) (operation : Operation) → ((line : Line) → o ≡ Some line → Used r line)
      → is_served (perform operation (askers_slots r o) (keys_in list)) ≡ true
      → replay_any g (act_asked o (Some operation)) ≡ Some (changed_for g o (perform operation (askers_slots r o) (keys_in list)).change)
  unfolding act_asked changed_for askers_slots replay_any
  asker_served None operation u s = refl
  asker_served (Some line) operation u s =
      let same : slots_of g line ≡ slots_of r line = a.slots line (u line refl) in
      line_served g line (in_use_lem line (u line refl)) (keys_in list) operation (ap (λ (l : List Entry). is_served (perform operation l (keys_in list))) same ∙ s)
      ∙ ap (λ (l : List Entry). Some (changed g line (recorded (perform operation l (keys_in list)).change))) same

  module _ (q : Request) where
    abbrev x : Result
    x = result_of list r q

    abbrev asked : Option Line
    asked = application_of r q

    request_served : is_served x ≡ true
        → replay_any g (act_asked asked (operation_of (format_of (format_for q.content_type)) q.opcode q.body)) ≡ Some (changed_for g asked x.change)
    unfolding operation_of
    request_served s = second (asking (format_of (format_for q.content_type)) q.opcode q.body) refl
      where
        is : x ≡ operated (format_of (format_for q.content_type)) q.opcode q.body (askers_slots r asked) (keys_in list)
        is = unfold result_of in rw (served_passes list r q (eqb-true _ _ s), result_of)

        second : (a : Asking) → asking (format_of (format_for q.content_type)) q.opcode q.body ≡ a
            → replay_any g (act_asked asked (operation_in a)) ≡ Some (changed_for g asked x.change)
        second (garbled at) w =
            let y : x ≡ refuse_at at = is ∙ (unfold operated in rw (w, operated)) in
            absurd (true≢false (sym s ∙ ap is_served y ∙ (unfold refuse_at status_number in refl)))
        second (asksFor operation) w =
            let y : x ≡ perform operation (askers_slots r asked) (keys_in list) = is ∙ (unfold operated in rw (w, operated)) in
            asker_served asked operation (asks r q) (ap is_served (sym y) ∙ s)
            ∙ ap (λ (z : Result). Some (changed_for g asked z.change)) (sym y)

    -- THE KEY STEP, of a request that is served
    pub served_replayed : is_served x ≡ true → replay_any g (served_act list r q) ≡ Some (changed_for g asked x.change)
    unfolding served_act
    served_replayed e = rw (e, served_act) (request_served e)

    -- and one that is refused has no record
    pub refused_unrecorded : is_served x ≡ false → served_act list r q ≡ None
    unfolding served_act
    refused_unrecorded e = rw (e, served_act)
