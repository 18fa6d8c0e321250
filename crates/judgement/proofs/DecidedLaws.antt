-- Laws of decisions: for each way an operation can end, what the rules make of it, from the facts that the code has there.
use Rattle.std.proofs.Common.{Some, None}
use mathlib.Core.Path.{◌≡◌, refl, sym, ap, ◌∙◌, subst}
use mathlib.Core.Bool.{Bool, true, false}
use mathlib.Core.List.{List}
use Prim.Native.Nat.{ℕ, ◌≤◌, ◌<◌}
use native.Mathlib.Omega.{arith}
use borrow.Author.Tests.{eq-eqb, ne_eqb, lt-ltb, le-ltb}
use lib.ListN.{length, get_or}
use lib.Dec.{eqb}
use Rattle.wire.proofs.ListLaws.{length_part}
use Rattle.wire.proofs.TestLaws.{some≢none}
use Rattle.keys.specs.Names.{legal_name, key_name_most}
use Rattle.keys.specs.Key.{Key, import_bits}
use Rattle.registry.specs.Slots.{Entry, free, held}
use Rattle.registry.specs.Registry.{slot_count, slots_of, unchanged, fill, clear}
use Rattle.registry.specs.declared.Line.{Line}
use Rattle.registry.specs.declared.Slot.{Slot}
use Rattle.keys.proofs.NameLaws.{legal_short}
use Rattle.keys.proofs.KeyLaws.{legal_data_lem, legal_bits_lem}
use Rattle.registry.proofs.SlotLaws.{Legal}
use Rattle.shipped.specs.Shipped.{ListedKey, keys_in}
use Rattle.wire.specs.declared.span.Span.{Span}
use Rattle.lookup.specs.Lookup.{Source, own, listed, key_of as keyFound, own_in, key_named}
use Rattle.lookup.specs.code.Places.{Within as PlaceWithin, listed_at, key_at, source_at, KeyAt}
use Rattle.lookup.specs.declared.Place.{Place}
use Rattle.lookup.specs.declared.Place.TheVariants.{Own, Listed, Nothing as Nowhere}
use Rattle.lookup.proofs.LookupLaws.{Alike}
use Rattle.rsa.specs.Signature.{verification}
use Rattle.messages.specs.Format.{Format}
use Rattle.messages.specs.Operations.{Operation, asks, garbled, asked, nothing}
use Rattle.messages.specs.Operations as message
use Rattle.messages.specs.Placed.{key_in}
use Rattle.messages.specs.declared.ask.KeyPlaces.{KeyPlaces}
use Rattle.judgement.specs.Status.{status_number}
use Rattle.judgement.specs.Operations.{Result, success, refuse, refuse_at, destroy_of, perform_destroy, counted, export_of, perform_export, hash_size, checked, verify_with, perform_verify, perform_list_opcodes, perform, operated}
use Rattle.judgement.specs.code.Decided.{output_in, change_of, result_in, refused_with, broken_at, counted_at, verifier, KeyWithin, KeyParts, SafeOutput, Decided}
use Rattle.judgement.specs.declared.Status.{Status}
use Rattle.judgement.specs.declared.Status.TheVariants.{Success, ProviderDoesNotExist, PsaErrorNotPermitted, PsaErrorInvalidArgument, PsaErrorNotSupported, PsaErrorDoesNotExist}
use Rattle.judgement.specs.declared.Output.{Output}
use Rattle.judgement.specs.declared.Output.TheVariants.{Nothing, Opcodes, Data}
use Rattle.judgement.specs.declared.Edit.TheVariants.{Stays, Fills, Clears}
use Rattle.judgement.specs.declared.Decision.{Decision}
use Rattle.judgement.proofs.SourceLaws.{bytes_at_lem, at_own, at_listed, source, at_source, at_alike}
use Rattle.judgement.proofs.Results.{refused_uncounted}
use Rattle.judgement.proofs.ImportLaws.{Taken}
use Rattle.judgement.proofs.JudgementLaws.{taken_legal}

-- ---- what a decision comes to

-- served, with this body in the response
abbrev pub served_with : Output → Decision
served_with output = record { status = Success; output = output; edit = Stays }

module _ (slots : List Entry) (list body : List ℕ) {x : Result} where
  pub refusal : (status : Status) → x ≡ refuse status → Decided slots list body x (refused_with status)
  unfolding refuse result_in output_in change_of
  refusal status e = record { result = sym e; output = tt; edit = tt }

  pub listing : (output : Output) → SafeOutput list output → x ≡ success (output_in slots list output) unchanged
      → Decided slots list body x (served_with output)
  unfolding success result_in change_of
  listing output safe e = record { result = sym e; output = safe; edit = tt }

module _ (slots : List Entry) (list body : List ℕ) {x : Result} (slot : Slot) (below : slot.0 < slot_count) where
  pub filling : (key : KeyPlaces) → KeyParts (length body) key → x ≡ success nothing (fill slot (key_in body key))
      → Decided slots list body x (record { status = Success; output = Nothing; edit = Fills slot key })
  unfolding success result_in output_in change_of
  filling key parts e = record { result = sym e; output = tt; edit = (below, parts) }

  pub clearing : x ≡ success nothing (clear slot) → Decided slots list body x (record { status = Success; output = Nothing; edit = Clears slot })
  unfolding success result_in output_in change_of
  clearing e = record { result = sym e; output = tt; edit = below }

-- ---- a use of a key

module _ (slots : List Entry) (list body : List ℕ) {x : Result} (d : Decision) (done : Decided slots list body x d) where
  -- of the key at a place, who holds it counts it
  abbrev Counted : Source → Place → Type 0
  Counted source place = Decided slots list body (counted source x) (counted_at place d)

  counted_own : (slot : Slot) (key : Key) → slot.0 < slot_count → Counted (own slot key) (Own slot)
  unfolding counted counted_at result_in change_of
  counted_own slot key below =
      subst (λ (y : Result). Decided slots list body (counted (own slot key) y) (counted_at (Own slot) d)) done.result
      (go (eqb (status_number d.status) 0) refl)
    where
      go : (t : Bool) → eqb (status_number d.status) 0 ≡ t
          → Decided slots list body (counted (own slot key) (result_in slots list body d)) (counted_at (Own slot) d)
      go true e = rw (e, counted, counted_at) (record { result = refl; output = done.output; edit = below })
      go false e = rw (e, counted, counted_at) (record { result = refl; output = done.output; edit = done.edit })

  pub counted_there : (registry : List ℕ) (line : Line) (name : List ℕ) (place : Place) (source : Source)
      → source_at registry list line name place ≡ Some source → PlaceWithin list place → Counted source place
  unfolding source_at own_in counted counted_at PlaceWithin
  counted_there registry line name (Own slot) source e w = go (get_or (slots_of registry line) slot.0 free) e
    where
      go : (entry : Entry) → own_in slot entry ≡ Some source → Counted source (Own slot)
      go free q = absurd (some≢none source (sym q))
      go (held key) q = let o : own slot key ≡ source = cc in subst (λ (s : Source). Counted s (Own slot)) o (counted_own slot key w)
  counted_there registry line name (Listed span) source e w =
      let o : listed (listed_at name list span) ≡ source = cc in
      subst (λ (s : Source). Counted s (Listed span)) o done
  counted_there registry line name Nowhere source e w = absurd (some≢none source (sym e))

-- ---- the body of a request

module _ (slots : List Entry) (list body : List ℕ) (format : Format) (opcode : ℕ) where
  pub unreadable : (at : ℕ) → garbled at ≡ asked format opcode body
      → Decided slots list body (operated format opcode body slots (keys_in list)) (broken_at at)
  unfolding operated refuse_at result_in output_in change_of
  unreadable at e = record { result = rw (← e, operated); output = tt; edit = tt }

  pub readable : (operation : Operation) → asks operation ≡ asked format opcode body
      → operated format opcode body slots (keys_in list) ≡ perform operation slots (keys_in list)
  unfolding operated
  readable operation e = rw (← e, operated)

-- ---- the core operations

pub opcodes_refused : (provider : ℕ) → 1 < provider → perform_list_opcodes provider ≡ refuse ProviderDoesNotExist
unfolding perform_list_opcodes
opcodes_refused provider h = rw (lt-ltb 1 provider h)

pub opcodes_listed : (slots : List Entry) (list : List ℕ) (provider : ℕ) → provider ≤ 1
    → perform_list_opcodes provider ≡ success (output_in slots list (Opcodes provider)) unchanged
unfolding perform_list_opcodes output_in
opcodes_listed slots list provider h = rw (le-ltb 1 provider h)

-- ---- the parts of a key that Import takes

pub key_parts : (body : List ℕ) (key : KeyPlaces) → KeyWithin (length body) key → Taken import_bits (key_in body key) → KeyParts (length body) key
key_parts body key inside t =
    let legal : Legal (key_in body key) = taken_legal (key_in body key) t in
    let n = length_part body key.name.start key.name.len inside.0 in
    let b = length_part body key.bytes.start key.bytes.len inside.1 in
    record {
      within = inside;
      name = omega (arith, legal_short key_name_most _ legal.name);
      bytes = omega (arith, legal_data_lem _ legal.bytes);
      bits = legal_bits_lem _ legal.bits;
    }

-- ---- Destroy, Export and Verify

module _ (slots : List Entry) (keys : List ListedKey) (name : List ℕ) where
  module _ (t : legal_name key_name_most name ≡ false) where
    pub bad_destroyed : perform_destroy name slots keys ≡ refuse PsaErrorInvalidArgument
    unfolding perform_destroy
    bad_destroyed = rw t

    pub bad_exported : perform_export name slots keys ≡ refuse PsaErrorInvalidArgument
    unfolding perform_export
    bad_exported = rw t

    pub bad_verified : (hash signature : List ℕ) → perform_verify name hash signature slots keys ≡ refuse PsaErrorInvalidArgument
    unfolding perform_verify
    bad_verified hash signature = rw t

  module _ (t : legal_name key_name_most name ≡ true) where
    module _ (e : key_named name slots keys ≡ None) where
      pub none_destroyed : perform_destroy name slots keys ≡ refuse PsaErrorDoesNotExist
      unfolding perform_destroy
      none_destroyed = rw (t, e)

      pub none_exported : perform_export name slots keys ≡ refuse PsaErrorDoesNotExist
      unfolding perform_export
      none_exported = rw (t, e)

      pub none_verified : (hash signature : List ℕ) → perform_verify name hash signature slots keys ≡ refuse PsaErrorDoesNotExist
      unfolding perform_verify
      none_verified hash signature = rw (t, e)

    module _ (source : Source) (e : key_named name slots keys ≡ Some source) where
      pub destroys : perform_destroy name slots keys ≡ destroy_of source
      unfolding perform_destroy
      destroys = rw (t, e)

      pub exports : perform_export name slots keys ≡ counted source (export_of (keyFound source))
      unfolding perform_export
      exports = rw (t, e)

      pub verifies : (hash signature : List ℕ) → perform_verify name hash signature slots keys ≡ counted source (verify_with hash signature (keyFound source))
      unfolding perform_verify
      verifies hash signature = rw (t, e)

may_export : (key : Key) → key.export_allowed ≡ true → export_of key ≡ success (message.exported key.bytes) unchanged
unfolding export_of
may_export key a = rw a

may_not_export : (key : Key) → key.export_allowed ≡ false → export_of key ≡ refuse PsaErrorNotPermitted
unfolding export_of
may_not_export key a = rw a

-- Verify looks at no more of a key
by_verifier : (hash signature : List ℕ) (key : Key)
    → verify_with hash signature key ≡ verify_with hash signature (verifier key.verify_allowed key.bytes key.bits)
unfolding verify_with
by_verifier hash signature key = refl

-- of the key that was found at a place by a legal name
module _ (registry list : List ℕ) (line : Line) (name : List ℕ) (place : Place) (at : KeyAt registry list line name place)
    (t : legal_name key_name_most name ≡ true) where
  abbrev slots : List Entry
  slots = slots_of registry line

  abbrev keys : List ListedKey
  keys = keys_in list

  pub own_destroyed : (slot : Slot) → place ≡ Own slot → perform_destroy name slots keys ≡ success nothing (clear slot)
  unfolding destroy_of
  own_destroyed slot e =
      let (key, q) = at_own registry list line name place at slot e t in
      destroys slots keys name t (own slot key) q

  pub listed_destroyed : (span : Span) → place ≡ Listed span → perform_destroy name slots keys ≡ refuse PsaErrorNotPermitted
  unfolding destroy_of
  listed_destroyed span e = destroys slots keys name t (listed (listed_at name list span)) (at_listed registry list line name place at span e)

  module _ (n : place ≡ Nowhere → ⊥) where
    abbrev k : Key
    k = key_at registry list line place

    abbrev found : Source
    found = source registry list line name place at n t

    alike : Alike k (keyFound found)
    alike = at_alike registry list line name place at n t

    exported_by : perform_export name slots keys ≡ counted found (export_of (keyFound found))
    exported_by = exports slots keys name t found (at_source registry list line name place at n t)

    pub exported : k.export_allowed ≡ true → perform_export name slots keys ≡ counted found (success (output_in slots list (Data place)) unchanged)
    unfolding output_in
    exported a =
        exported_by
        ∙ ap (counted found)
        (may_export (keyFound found) (sym alike.export_allowed ∙ a)
        ∙ ap (λ (bytes : List ℕ). success (message.exported bytes) unchanged) (sym alike.bytes ∙ bytes_at_lem registry list line place))

    pub not_exported : k.export_allowed ≡ false → perform_export name slots keys ≡ refuse PsaErrorNotPermitted
    unfolding status_number
    not_exported a =
        exported_by
        ∙ ap (counted found) (may_not_export (keyFound found) (sym alike.export_allowed ∙ a))
        ∙ refused_uncounted found PsaErrorNotPermitted refl

    by_key : (hash signature : List ℕ)
        → verify_with hash signature (keyFound found) ≡ verify_with hash signature (verifier k.verify_allowed k.bytes k.bits)
    by_key hash signature =
        by_verifier hash signature (keyFound found)
        ∙ rw (← alike.verify_allowed, ← alike.bytes, ← alike.bits) refl

    pub verified_by_lem : (hash signature : List ℕ)
        → perform_verify name hash signature slots keys ≡ counted found (verify_with hash signature (verifier k.verify_allowed k.bytes k.bits))
    verified_by_lem hash signature =
        verifies slots keys name t found (at_source registry list line name place at n t) hash signature
        ∙ ap (counted found) (by_key hash signature)

    -- what is decided of the key is decided with its use counted
    pub counting : (body : List ℕ) {x : Result} (d : Decision) → Decided slots list body x d → Decided slots list body (counted found x) (counted_at place d)
    counting body d done =
        counted_there slots list body d done registry line name place found (at.source ∙ at_source registry list line name place at n t) at.within

-- ---- Verify, with the key

module _ (hash signature : List ℕ) (key : Key) where
  pub not_verifying : key.verify_allowed ≡ false → verify_with hash signature key ≡ refuse PsaErrorNotPermitted
  unfolding verify_with
  not_verifying a = rw a

  module _ (a : key.verify_allowed ≡ true) where
    pub bad_hash : (length hash ≡ hash_size → ⊥) → verify_with hash signature key ≡ refuse PsaErrorInvalidArgument
    unfolding verify_with
    bad_hash h = rw (a, ne_eqb (length hash) hash_size h)

    module _ (h : length hash ≡ hash_size) where
      pub bad_bits : import_bits key.bits ≡ false → verify_with hash signature key ≡ refuse PsaErrorNotSupported
      unfolding verify_with
      bad_bits b = rw (a, eq-eqb (length hash) hash_size h, b)

      pub verifying : import_bits key.bits ≡ true → verify_with hash signature key ≡ checked (verification key.bytes key.bits hash signature).outcome
      unfolding verify_with
      verifying b = rw (a, eq-eqb (length hash) hash_size h, b)
