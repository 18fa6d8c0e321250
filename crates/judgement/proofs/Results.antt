-- What is true of every way in which a request can end is true of its result.
use Rattle.std.proofs.Common.{Option, Some, None}
use mathlib.Core.Path.{◌≡◌, refl}
use mathlib.Core.Bool.{Bool, true, false}
use mathlib.Core.List.{List, []}
use Prim.Native.Nat.{ℕ, ◌≤◌}
use lib.ListN.{length}
use lib.Dec.{ltb, eqb}
use Rattle.wire.specs.Choice.{first_of}
use Rattle.wire.specs.Request.{Request}
use Rattle.keys.specs.Names.{legal_name, key_name_most}
use Rattle.keys.specs.Key.{Key, import_bits}
use Rattle.registry.specs.Slots.{Entry}
use Rattle.registry.specs.Registry.{slot_named, unchanged, fill, clear}
use Rattle.registry.specs.declared.Slot.{Slot}
use Rattle.shipped.specs.Shipped.{ListedKey, keys_in}
use Rattle.lookup.specs.Lookup.{Source, own, listed as shipped, key_of, key_named}
use Rattle.rsa.specs.Signature.{verification}
use Rattle.rsa.specs.declared.verify.Outcome.{Outcome}
use Rattle.rsa.specs.declared.verify.Outcome.TheVariants.{ValidSignature, InvalidSignature, InvalidKey}
use Rattle.messages.specs.Format.{Format}
use Rattle.messages.specs.Operations.{Operation, ping, list_providers, list_opcodes, import_key, destroy_key, export_public_key, verify_signature, Asking, asks, garbled, asked, Output, nothing, opcodes, exported}
use Rattle.messages.specs.Operations as message
use Rattle.messages.specs.Opcodes.{opcodes_of}
use Rattle.messages.specs.Formats.{format_of, format_for}
use Rattle.messages.specs.declared.format.BodyFormat.{BodyFormat}
use Rattle.messages.proofs.FormatsLaws.{short_most, version_short, providers_short, opcodes_short}
use Rattle.judgement.specs.Status.{status_number}
use Rattle.judgement.specs.Operations.{Result, success, refuse, refuse_at, perform_import, destroy_of, perform_destroy, counted, export_of, perform_export, hash_size, checked, verify_with, perform_verify, perform_list_opcodes, perform, operated}
use Rattle.judgement.specs.Judgement.{application_of, refusals, askers_slots, result_of}
use Rattle.judgement.specs.declared.Status.{Status}
use Rattle.judgement.specs.declared.Status.TheVariants.{Success}
use Rattle.judgement.proofs.SourceLaws.{own_there}
use Rattle.judgement.proofs.ImportLaws.{Taken, import_ends, new_there}

-- the ways to end, on these slots and these keys that we ship
pub record Ends (slots : List Entry) (keys : List ListedKey) (P : Result → Type 0) : Type 0 where
  pub refused : (status : Status) → P (refuse status)
  pub broken : (at : ℕ) → P (refuse_at at)
  pub served : (output : Output) → ((f : BodyFormat) → length (message.output_bytes (format_of f) output) ≤ short_most) → P (success output unchanged)
  pub imported : (slot : Slot) (key : Key) → Taken import_bits key → slot_named key.name slots ≡ None → slot_named [] slots ≡ Some slot
      → P (success nothing (fill slot key))
  pub destroyed : (slot : Slot) (name : List ℕ) → slot_named name slots ≡ Some slot → P (success nothing (clear slot))
  pub exported : (source : Source) (name : List ℕ) → key_named name slots keys ≡ Some source
      → P (counted source (success (exported (key_of source).bytes) unchanged))
  pub verified : (source : Source) (name : List ℕ) → key_named name slots keys ≡ Some source → P (counted source (success nothing unchanged))

-- ---- what counting a use leaves as it is

pub refused_uncounted : (source : Source) (status : Status) → eqb (status_number status) 0 ≡ false → counted source (refuse status) ≡ refuse status
unfolding counted refuse
refused_uncounted (own slot key) status e = rw e
refused_uncounted (shipped key) status e = refl

pub served_status : (source : Source) (output : Output) → (counted source (success output unchanged)).status ≡ Success
unfolding counted success status_number
served_status (own slot key) output = refl
served_status (shipped key) output = refl

pub served_output : (source : Source) (output : Output) → (counted source (success output unchanged)).output ≡ output
unfolding counted success status_number
served_output (own slot key) output = refl
served_output (shipped key) output = refl

module _ (slots : List Entry) (keys : List ListedKey) (P : Result → Type 0) (ends : Ends slots keys P) where
  by_import : (key : Key) → P (perform_import key slots keys)
  unfolding perform_import
  by_import key = import_ends import_bits slots keys key P (λ status z _. ends.refused status)
      (λ slot t n e. ends.imported slot key t (new_there import_bits slots keys key t n) e)

  by_destroying : (name : List ℕ) (source : Source) → key_named name slots keys ≡ Some source → P (destroy_of source)
  unfolding destroy_of
  by_destroying name (own slot key) e = ends.destroyed slot name (own_there name slots keys slot key e)
  by_destroying name (shipped key) e = ends.refused _

  by_destroy : (name : List ℕ) → P (perform_destroy name slots keys)
  unfolding perform_destroy
  by_destroy name = go (legal_name key_name_most name) refl
    where
      second : legal_name key_name_most name ≡ true → (o : Option Source) → key_named name slots keys ≡ o → P (perform_destroy name slots keys)
      second v None e = rw (v, e, perform_destroy) (ends.refused _)
      second v (Some source) e = rw (v, e, perform_destroy) (by_destroying name source e)

      go : (t : Bool) → legal_name key_name_most name ≡ t → P (perform_destroy name slots keys)
      go false e = rw (e, perform_destroy) (ends.refused _)
      go true e = second e (key_named name slots keys) refl

  -- a refusal of a request for a key
  by_refusal : (source : Source) (status : Status) → eqb (status_number status) 0 ≡ false → P (counted source (refuse status))
  by_refusal source status e = rw (refused_uncounted source status e) (ends.refused status)

  by_exporting : (name : List ℕ) (source : Source) → key_named name slots keys ≡ Some source → P (counted source (export_of (key_of source)))
  unfolding export_of status_number
  by_exporting name source q = go (key_of source).export_allowed refl
    where
      go : (t : Bool) → (key_of source).export_allowed ≡ t → P (counted source (export_of (key_of source)))
      go false e = rw (e, export_of) (by_refusal source _ refl)
      go true e = rw (e, export_of) (ends.exported source name q)

  by_export : (name : List ℕ) → P (perform_export name slots keys)
  unfolding perform_export
  by_export name = go (legal_name key_name_most name) refl
    where
      second : legal_name key_name_most name ≡ true → (o : Option Source) → key_named name slots keys ≡ o → P (perform_export name slots keys)
      second v None e = rw (v, e, perform_export) (ends.refused _)
      second v (Some source) e = rw (v, e, perform_export) (by_exporting name source e)

      go : (t : Bool) → legal_name key_name_most name ≡ t → P (perform_export name slots keys)
      go false e = rw (e, perform_export) (ends.refused _)
      go true e = second e (key_named name slots keys) refl

  by_outcome : (name : List ℕ) (source : Source) → key_named name slots keys ≡ Some source → (outcome : Outcome) → P (counted source (checked outcome))
  unfolding checked status_number
  by_outcome name source q ValidSignature = ends.verified source name q
  by_outcome name source q InvalidKey = by_refusal source _ refl
  by_outcome name source q InvalidSignature = by_refusal source _ refl

  by_verifying : (name hash signature : List ℕ) (source : Source) → key_named name slots keys ≡ Some source
      → P (counted source (verify_with hash signature (key_of source)))
  unfolding verify_with status_number
  by_verifying name hash signature source q = go key.verify_allowed refl (eqb (length hash) hash_size) refl (import_bits key.bits) refl
    where
      key : Key
      key = key_of source

      go : (a : Bool) → key.verify_allowed ≡ a → (t : Bool) → eqb (length hash) hash_size ≡ t → (b : Bool) → import_bits key.bits ≡ b
          → P (counted source (verify_with hash signature key))
      go false e t h b i = rw (e, verify_with) (by_refusal source _ refl)
      go true e false h b i = rw (e, h, verify_with) (by_refusal source _ refl)
      go true e true h false i = rw (e, h, i, verify_with) (by_refusal source _ refl)
      go true e true h true i = rw (e, h, i, verify_with) (by_outcome name source q (verification key.bytes key.bits hash signature).outcome)

  by_verify : (name hash signature : List ℕ) → P (perform_verify name hash signature slots keys)
  unfolding perform_verify
  by_verify name hash signature = go (legal_name key_name_most name) refl
    where
      second : legal_name key_name_most name ≡ true → (o : Option Source) → key_named name slots keys ≡ o → P (perform_verify name hash signature slots keys)
      second v None e = rw (v, e, perform_verify) (ends.refused _)
      second v (Some source) e = rw (v, e, perform_verify) (by_verifying name hash signature source e)

      go : (t : Bool) → legal_name key_name_most name ≡ t → P (perform_verify name hash signature slots keys)
      go false e = rw (e, perform_verify) (ends.refused _)
      go true e = second e (key_named name slots keys) refl

  by_opcodes : (provider : ℕ) → P (perform_list_opcodes provider)
  unfolding perform_list_opcodes
  by_opcodes provider = go (ltb 1 provider) refl
    where
      go : (t : Bool) → ltb 1 provider ≡ t → P (perform_list_opcodes provider)
      go true e = rw (e, perform_list_opcodes) (ends.refused _)
      go false e = rw (e, perform_list_opcodes) (ends.served (opcodes (opcodes_of provider)) (λ f. opcodes_short f provider))

  by_operation : (operation : Operation) → P (perform operation slots keys)
  unfolding perform
  by_operation ping = ends.served _ (λ f. version_short f 1 0)
  by_operation list_providers = ends.served _ (λ f. providers_short f)
  by_operation (list_opcodes provider) = by_opcodes provider
  by_operation (import_key key) = by_import key
  by_operation (destroy_key name) = by_destroy name
  by_operation (export_public_key name) = by_export name
  by_operation (verify_signature name hash signature) = by_verify name hash signature

module _ (list r : List ℕ) (q : Request) (P : Result → Type 0) (ends : Ends (askers_slots r (application_of r q)) (keys_in list) P) where
  abbrev format : Format
  format = format_of (format_for q.content_type)

  by_operate : P (operated format q.opcode q.body (askers_slots r (application_of r q)) (keys_in list))
  unfolding operated
  by_operate = go (asked format q.opcode q.body) refl
    where
      go : (o : Asking) → asked format q.opcode q.body ≡ o → P (operated format q.opcode q.body (askers_slots r (application_of r q)) (keys_in list))
      go (garbled at) e = rw (e, operated) (ends.broken at)
      go (asks operation) e = rw (e, operated) (by_operation (askers_slots r (application_of r q)) (keys_in list) P ends operation)

  pub by_result : P (result_of list r q)
  unfolding result_of
  by_result = go (first_of (refusals r q)) refl
    where
      go : (o : Option Status) → first_of (refusals r q) ≡ o → P (result_of list r q)
      go (Some status) e = rw (e, result_of) (ends.refused status)
      go None e = rw (e, result_of) by_operate
