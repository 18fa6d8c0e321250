-- Every result of a request can be read by the client that sent it: 0 and an output of the opcode's kind, 7 and where the body
-- broke, or another status and no output.
use Rattle.std.proofs.Common.{Option, Some, None}
use mathlib.Core.Path.{◌≡◌, refl, sym, ap, subst}
use Prim.Native.Nat.{ℕ, zero, suc, ◌-◌, ◌*◌, ◌^◌, ◌≤◌, ◌<◌}
use mathlib.Core.Bool.{Bool, true, false, not}
use mathlib.Core.List.{List, [], map}
use native.Mathlib.Omega.{arith}
use borrow.Author.Tests.{eqb-true, eqb-false, ltb-true}
use lib.ListN.{length, get_or, set}
use lib.Dec.{ltb, eqb}
use Rattle.wire.specs.Choice.{when◌then◌else◌, first_of}
use Rattle.wire.specs.Lists.{all}
use Rattle.wire.specs.Request.{Request}
use Rattle.wire.specs.Scan.{on, out, follow, scan_from, scan_at}
use Rattle.wire.proofs.TestLaws.{either, first_has}
use Rattle.keys.specs.Names.{key_name_most, legal_name}
use Rattle.keys.specs.Key.{Key, data_most, import_bits}
use Rattle.messages.specs.Formats.{format_of, format_for}
use Rattle.messages.specs.Message.{Schema, Message, absent}
use Rattle.messages.specs.Format.{Field, field, skipped, unreadable, Format, Reading, read, broken, SoFar, turn_of, turn_at, read_message}
use Rattle.messages.specs.Opcodes.{opcodes_of}
use Rattle.messages.specs.Operations.{Operation, ping, list_providers, list_opcodes, import_key, destroy_key, export_public_key, verify_signature, opcode_of, input_fields, Asking, asks, garbled, asking_of, asking_by, asked, Answers, of_ping, of_list_providers, of_list_opcodes, of_import, of_destroy, of_export, of_verify, Carries, not_read, message_of}
use Rattle.messages.specs.Operations.{served as answered, refused as bare}
use Rattle.rsa.specs.Signature.{verification}
use Rattle.rsa.specs.declared.verify.Outcome.{Outcome}
use Rattle.rsa.specs.declared.verify.Outcome.TheVariants.{ValidSignature, InvalidSignature, InvalidKey}
use Rattle.registry.specs.Slots.{Entry, free}
use Rattle.registry.specs.Registry.{slot_named, add_use}
use Rattle.registry.specs.WellFormed.{well_formed_registry}
use Rattle.registry.specs.declared.Line.{Line}
use Rattle.registry.proofs.SlotLaws.{ShortEntry}
use Rattle.registry.proofs.WellFormedLaws.{slots_short}
use Rattle.shipped.specs.Shipped.{ListedKey, keys_in}
use Rattle.lookup.specs.Lookup.{Source, own, listed, key_of, key_named}
use Rattle.judgement.specs.Status.{status_number}
use Rattle.judgement.specs.Operations.{Result, success, refuse, refuse_at, within_bounds, import_by, perform_import, destroy_of, perform_destroy, counted, export_of, perform_export, hash_size, checked, verify_with, perform_verify, perform_list_opcodes, perform, operated}
use Rattle.judgement.specs.Judgement.{application_of, refusals, askers_slots, result_of}
use Rattle.judgement.specs.declared.Status.{Status}
use Rattle.judgement.proofs.SourceLaws.{source_short}
use Rattle.judgement.proofs.ImportLaws.{Taken, out_of_bounds, other_bits, name_taken, no_slot, imported}
use Rattle.judgement.proofs.JudgementLaws.{asks as asks-line}
use Rattle.conversation.proofs.Answered.{Brief, Sound}
use Rattle.registry.specs.declared.Slot.{Slot}

-- a result of the operation's kind
abbrev SoundFor : Operation → Result → Type 0
SoundFor operation r = Sound (opcode_of operation) r

-- a status that has no output, and is not that of a bad start
abbrev pub Bare : Status → Type 0
Bare status = (eqb (status_number status) 0 ≡ false) × (eqb (status_number status) 7 ≡ false) × (eqb (status_number status) 17 ≡ false)

pub refused : (opcode : ℕ) (status : Status) → Bare status → Sound opcode (refuse status)
unfolding refuse
refused opcode status h = record { carries = bare (eqb-false _ _ h.0) (eqb-false _ _ h.1); brief = tt; whole = h.2 }

served : {opcode : ℕ} {r : Result} → status_number r.status ≡ 0 → Answers opcode r.output → Brief (message_of r.output) → Sound opcode r
served {opcode} {r} z answers b = record {
  carries = subst (λ (n : ℕ). Carries opcode n r.output) (sym z) (answered answers);
  brief = b;
  whole = ap (λ (n : ℕ). eqb n 17) z;
}

-- counting a use changes neither the status nor the output
sound_counted : (opcode : ℕ) (source : Source) (r : Result) → Sound opcode r → Sound opcode (counted source r)
unfolding counted
sound_counted opcode (listed key) r sound = sound
sound_counted opcode (own slot key) r sound = either (Sound opcode) (eqb (status_number r.status) 0) (λ _. again sound) (λ _. sound)
  where
    again : Sound opcode r → Sound opcode (record { status = r.status; output = r.output; change = add_use slot })
    again s = record { carries = s.carries; brief = s.brief; whole = s.whole }

opcodes_fit : (provider : ℕ) → (all (λ n. ltb n (2 ^ 32)) (opcodes_of provider) ≡ true) × (10 * length (opcodes_of provider) < 2 ^ 16)
unfolding opcodes_of
opcodes_fit provider =
    either (λ (l : List ℕ). (all (λ n. ltb n (2 ^ 32)) l ≡ true) × (10 * length l < 2 ^ 16)) (eqb provider 0)
    (λ _. (refl, omega arith)) (λ _. (refl, omega arith))

-- the slots of the asker hold short data
abbrev ShortSlots : List Entry → Type 0
ShortSlots slots = (i : ℕ) → ShortEntry (get_or slots i free)

module _ (slots : List Entry) (list : List ℕ) where
  abbrev keys : List ListedKey
  keys = keys_in list

  sound_import : (key : Key) → SoundFor (import_key key) (perform_import key slots keys)
  unfolding perform_import success status_number
  sound_import key = first (within_bounds key) refl
    where
      fourth : Taken import_bits key → key_named key.name slots keys ≡ None → (f : Option Slot) → slot_named [] slots ≡ f → SoundFor (import_key key) (import_by import_bits key slots keys)
      fourth t n None e = subst (SoundFor (import_key key)) (sym (no_slot import_bits slots keys key t n e)) (refused _ _ (refl, refl, refl))
      fourth t n (Some slot) e = subst (SoundFor (import_key key)) (sym (imported import_bits slots keys key t n slot e)) (served refl of_import tt)

      third : Taken import_bits key → (o : Option Source) → key_named key.name slots keys ≡ o → SoundFor (import_key key) (import_by import_bits key slots keys)
      third t (Some source) e = subst (SoundFor (import_key key)) (sym (name_taken import_bits slots keys key t source e)) (refused _ _ (refl, refl, refl))
      third t None e = fourth t e (slot_named [] slots) refl

      second : within_bounds key ≡ true → (t : Bool) → import_bits key.bits ≡ t → SoundFor (import_key key) (import_by import_bits key slots keys)
      second e false b = subst (SoundFor (import_key key)) (sym (other_bits import_bits slots keys key e b)) (refused _ _ (refl, refl, refl))
      second e true b = third (record { bounds = e; bits = b }) (key_named key.name slots keys) refl

      first : (t : Bool) → within_bounds key ≡ t → SoundFor (import_key key) (import_by import_bits key slots keys)
      first false e = subst (SoundFor (import_key key)) (sym (out_of_bounds import_bits slots keys key e)) (refused _ _ (refl, refl, refl))
      first true e = second e (import_bits key.bits) refl

  sound_destroying : (name : List ℕ) (source : Source) → SoundFor (destroy_key name) (destroy_of source)
  unfolding destroy_of success status_number
  sound_destroying name (own slot key) = served refl of_destroy tt
  sound_destroying name (listed key) = refused _ _ (refl, refl, refl)

  sound_destroy : (name : List ℕ) → SoundFor (destroy_key name) (perform_destroy name slots keys)
  unfolding perform_destroy success status_number
  sound_destroy name = go (legal_name key_name_most name) refl
    where
      second : legal_name key_name_most name ≡ true → (o : Option Source) → key_named name slots keys ≡ o → SoundFor (destroy_key name) (perform_destroy name slots keys)
      second v None e = rw (v, e, perform_destroy) (refused _ _ (refl, refl, refl))
      second v (Some source) e = rw (v, e, perform_destroy) (sound_destroying name source)

      go : (t : Bool) → legal_name key_name_most name ≡ t → SoundFor (destroy_key name) (perform_destroy name slots keys)
      go false e = rw (e, perform_destroy) (refused _ _ (refl, refl, refl))
      go true e = second e (key_named name slots keys) refl

  sound_exporting : (name : List ℕ) (key : Key) → length key.bytes ≤ data_most → SoundFor (export_public_key name) (export_of key)
  unfolding export_of success status_number
  sound_exporting name key s =
      either (SoundFor (export_public_key name)) key.export_allowed
      (λ _. served refl of_export (omega (arith, s), tt))
      (λ _. refused _ _ (refl, refl, refl))

  sound_export : ShortSlots slots → (name : List ℕ) → SoundFor (export_public_key name) (perform_export name slots keys)
  unfolding perform_export status_number
  sound_export short name = go (legal_name key_name_most name) refl
    where
      second : legal_name key_name_most name ≡ true → (o : Option Source) → key_named name slots keys ≡ o → SoundFor (export_public_key name) (perform_export name slots keys)
      second v None e = rw (v, e, perform_export) (refused _ _ (refl, refl, refl))
      second v (Some source) e = rw (v, e, perform_export) (sound_counted _ source _ (sound_exporting name (key_of source) (source_short name slots list short source e)))

      go : (t : Bool) → legal_name key_name_most name ≡ t → SoundFor (export_public_key name) (perform_export name slots keys)
      go false e = rw (e, perform_export) (refused _ _ (refl, refl, refl))
      go true e = second e (key_named name slots keys) refl

  module _ (name hash signature : List ℕ) where
    abbrev SoundVerify : Result → Type 0
    SoundVerify r = SoundFor (verify_signature name hash signature) r

    sound_checked : (outcome : Outcome) → SoundVerify (checked outcome)
    unfolding checked success status_number
    sound_checked ValidSignature = served refl of_verify tt
    sound_checked InvalidKey = refused _ _ (refl, refl, refl)
    sound_checked InvalidSignature = refused _ _ (refl, refl, refl)

    sound_verifying : (key : Key) → SoundVerify (verify_with hash signature key)
    unfolding verify_with status_number
    sound_verifying key =
        either SoundVerify (not key.verify_allowed)
        (λ _. refused _ _ (refl, refl, refl))
        (λ _. either SoundVerify (not (eqb (length hash) hash_size))
        (λ _. refused _ _ (refl, refl, refl))
        (λ _. either SoundVerify (not (import_bits key.bits))
        (λ _. refused _ _ (refl, refl, refl))
        (λ _. sound_checked (verification key.bytes key.bits hash signature).outcome)))

    sound_verify : SoundVerify (perform_verify name hash signature slots keys)
    unfolding perform_verify status_number
    sound_verify = go (legal_name key_name_most name) refl
      where
        second : legal_name key_name_most name ≡ true → (o : Option Source) → key_named name slots keys ≡ o → SoundVerify (perform_verify name hash signature slots keys)
        second v None e = rw (v, e, perform_verify) (refused _ _ (refl, refl, refl))
        second v (Some source) e = rw (v, e, perform_verify) (sound_counted _ source _ (sound_verifying (key_of source)))

        go : (t : Bool) → legal_name key_name_most name ≡ t → SoundVerify (perform_verify name hash signature slots keys)
        go false e = rw (e, perform_verify) (refused _ _ (refl, refl, refl))
        go true e = second e (key_named name slots keys) refl

  sound_opcodes : (provider : ℕ) → SoundFor (list_opcodes provider) (perform_list_opcodes provider)
  unfolding perform_list_opcodes success status_number
  sound_opcodes provider =
      either (SoundFor (list_opcodes provider)) (ltb 1 provider)
      (λ _. refused _ _ (refl, refl, refl))
      (λ _. served refl of_list_opcodes (opcodes_fit provider, tt))

  sound_perform : ShortSlots slots → (operation : Operation) → SoundFor operation (perform operation slots keys)
  unfolding perform success status_number
  sound_perform short ping = served refl of_ping (omega arith, (omega arith, tt))
  sound_perform short list_providers = served refl of_list_providers ((refl, omega arith), tt)
  sound_perform short (list_opcodes provider) = sound_opcodes provider
  sound_perform short (import_key key) = sound_import key
  sound_perform short (destroy_key name) = sound_destroy name
  sound_perform short (export_public_key name) = sound_export short name
  sound_perform short (verify_signature name hash signature) = sound_verify name hash signature

-- ---- the result of a request

short_slots : (registry : List ℕ) → well_formed_registry registry ≡ true → (q : Request) → ShortSlots (askers_slots registry (application_of registry q))
unfolding askers_slots
short_slots registry w q i = go (application_of registry q) refl
  where
    go : (o : Option Line) → application_of registry q ≡ o → ShortEntry (get_or (askers_slots registry o) i free)
    go None e = tt
    go (Some line) e = slots_short registry w line (asks-line registry q line e).there i

-- no test's status has an output
status_bare : (registry : List ℕ) (q : Request) (status : Status) → first_of (refusals registry q) ≡ Some status → Bare status
unfolding refusals status_number
status_bare registry q status e =
    let no : Type 0 = (false ≡ false) × (false ≡ false) × (false ≡ false) in
    let b : no = (refl, refl, refl) in
    first_has Bare (refusals registry q) (b, (b, (b, (b, (b, (b, (b, (b, (b, (b, tt)))))))))) status e

-- an opcode and a body ask for an operation of that opcode
abbrev Of : (opcode : ℕ) → Asking → Type 0
Of opcode (asks operation) = opcode_of operation ≡ opcode
Of opcode (garbled at) = Unit {0}

asking_of_lem : (opcode : ℕ) (m : Message) → Of opcode (asking_of opcode m)
unfolding asking_of
asking_of_lem opcode m =
    either (Of opcode) (eqb opcode 1) (λ e. sym (eqb-true opcode 1 e))
    (λ _. either (Of opcode) (eqb opcode 8) (λ e. sym (eqb-true opcode 8 e))
    (λ _. either (Of opcode) (eqb opcode 9) (λ e. sym (eqb-true opcode 9 e))
    (λ _. either (Of opcode) (eqb opcode 6) (λ e. sym (eqb-true opcode 6 e))
    (λ _. either (Of opcode) (eqb opcode 3) (λ e. sym (eqb-true opcode 3 e))
    (λ _. either (Of opcode) (eqb opcode 7) (λ e. sym (eqb-true opcode 7 e))
    (λ _. either (Of opcode) (eqb opcode 5) (λ e. sym (eqb-true opcode 5 e)) (λ _. tt)))))))

asked_of : (format : Format) (opcode : ℕ) (body : List ℕ) → Of opcode (asked format opcode body)
unfolding asked
asked_of format opcode body = go (read_message format (input_fields opcode) body)
  where
    go : (r : Reading) → Of opcode (asking_by opcode r)
    go (read m) = asking_of_lem opcode m
    go (broken at) = tt

-- ---- where a body broke

abbrev BrokenIn : (n : ℕ) → Reading → Type 0
BrokenIn n (read m) = Unit {0}
BrokenIn n (broken at) = at < n

abbrev GarbledIn : (n : ℕ) → Asking → Type 0
GarbledIn n (asks operation) = Unit {0}
GarbledIn n (garbled at) = at ≤ n

module _ (format : Format) (schema : Schema) (body : List ℕ) where
  turn_breaks : (at : ℕ) (so : SoFar) (f : Field) (rest : ℕ → SoFar → Reading) → at < length body → ((next : ℕ) (so' : SoFar) → BrokenIn (length body) (rest next so'))
      → BrokenIn (length body) (follow (turn_of format at so f) rest)
  turn_breaks at so (field n value next) rest l ih = go (format.may_follow so.0 n)
    where
      go : (t : Bool) → BrokenIn (length body) (follow (when t then on (n, set so.1 (n - 1) value) next else out (broken at)) rest)
      go true = ih next (n, set so.1 (n - 1) value)
      go false = l
  turn_breaks at so (skipped next) rest l ih = ih next so
  turn_breaks at so unreadable rest l ih = l

  from_breaks : (n at : ℕ) (so : SoFar) → BrokenIn (length body) (scan_from (turn_at format schema body) (λ so. read so.1) (length body) n at so)
  unfolding scan_from
  from_breaks zero at so = tt
  from_breaks (suc n) at so =
      either (BrokenIn (length body)) (ltb at (length body))
      (λ e. turn_breaks at so (format.field_at schema body at) _ (ltb-true _ _ e) (λ next so'. from_breaks n next so'))
      (λ _. tt)

  breaks_within : BrokenIn (length body) (read_message format schema body)
  unfolding read_message scan_at
  breaks_within = from_breaks (length body - 0) 0 (0, map absent schema)

asking_whole : (opcode : ℕ) (m : Message) (n : ℕ) → GarbledIn n (asking_of opcode m)
unfolding asking_of
asking_whole opcode m n =
    let P : Asking → Type 0 = GarbledIn n in
    either P (eqb opcode 1) (λ _. tt) (λ _. either P (eqb opcode 8) (λ _. tt) (λ _. either P (eqb opcode 9) (λ _. tt) (λ _. either P (eqb opcode 6) (λ _. tt)
    (λ _. either P (eqb opcode 3) (λ _. tt) (λ _. either P (eqb opcode 7) (λ _. tt) (λ _. either P (eqb opcode 5) (λ _. tt) (λ _. omega arith)))))))

asked_within : (format : Format) (opcode : ℕ) (body : List ℕ) → GarbledIn (length body) (asked format opcode body)
unfolding asked
asked_within format opcode body = go (read_message format (input_fields opcode) body) (breaks_within format (input_fields opcode) body)
  where
    go : (r : Reading) → BrokenIn (length body) r → GarbledIn (length body) (asking_by opcode r)
    go (read m) h = asking_whole opcode m (length body)
    go (broken at) h = omega arith

-- of any request with a body whose offsets can be written, whatever is in it
pub result_sound : (list registry : List ℕ) → well_formed_registry registry ≡ true → (q : Request) → length q.body < 2 ^ 32 → Sound q.opcode (result_of list registry q)
unfolding result_of operated refuse_at status_number
result_sound list registry w q short = go (first_of (refusals registry q)) refl
  where
    slots : List Entry
    slots = askers_slots registry (application_of registry q)

    format : Format
    format = format_of (format_for q.content_type)

    broke : (at : ℕ) → at ≤ length q.body → Sound q.opcode (refuse_at at)
    broke at h = record { carries = not_read; brief = (omega arith, tt); whole = refl }

    performed : (a : Asking) → Of q.opcode a → GarbledIn (length q.body) a → Sound q.opcode (elim a [
      | garbled at ↦ refuse_at at
      | asks operation ↦ perform operation slots (keys_in list)
    ])
    performed (garbled at) e h = broke at h
    performed (asks operation) e h = subst (λ (n : ℕ). Sound n (perform operation slots (keys_in list))) e (sound_perform slots list (short_slots registry w q) operation)

    go : (o : Option Status) → first_of (refusals registry q) ≡ o → Sound q.opcode (result_of list registry q)
    go (Some status) e = rw (e, result_of) (refused q.opcode status (status_bare registry q status e))
    go None e = rw (e, result_of) (performed (asked format q.opcode q.body) (asked_of format q.opcode q.body) (asked_within format q.opcode q.body))
