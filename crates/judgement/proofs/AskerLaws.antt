-- Who asks, and what the result of a request depends on: the request, the list of keys that we ship, and the slots of the
-- application that asks; with auth type 0 the request alone.
use Rattle.std.proofs.Common.{Option, Some, None}
use mathlib.Core.Path.{◌≡◌, refl, sym, ap, ap₂, ◌∙◌}
use Prim.Native.Nat.{ℕ, ◌≤◌}
use mathlib.Core.Bool.{Bool, true, false, true≢false, ◌&&◌}
use mathlib.Core.List.{List}
use native.Mathlib.Omega.{arith}
use borrow.Author.Tests.{ltb-false, eqb-false, eq-eqb, not-false}
use lib.Dec.{eqb}
use Rattle.wire.specs.Choice.{when◌then◌else◌, first_of}
use Rattle.wire.specs.Lists.{one_of}
use Rattle.wire.specs.Request.{Request}
use Rattle.wire.proofs.TestLaws.{some≢none, none_at, AllHave, first_has, either}
use Rattle.messages.specs.Format.{Format, Reading, read, broken, read_message}
use Rattle.messages.specs.Formats.{format_of, format_for}
use Rattle.messages.specs.Opcodes.{core_opcodes, opcodes_of}
use Rattle.messages.specs.Operations.{ping, list_providers, list_opcodes, import_key, destroy_key, export_public_key, verify_signature, input_fields, Asking, asks, garbled, asking_of, asking_by, asked}
use Rattle.registry.specs.Slots.{Entry}
use Rattle.registry.specs.Registry.{application_named, slots_of}
use Rattle.registry.specs.declared.Line.{Line}
use Rattle.shipped.specs.Shipped.{ListedKey, keys_in}
use Rattle.judgement.specs.Status.{status_number}
use Rattle.judgement.specs.Operations.{Result, refuse, perform, operated}
use Rattle.judgement.specs.Judgement.{application_of, refusals, askers_slots, result_of}
use Rattle.judgement.specs.declared.Status.{Status}
use Rattle.judgement.specs.declared.Status.TheVariants.{Success}

-- ---- who asks

-- with auth type 0 nobody
pub asks_nobody : (r : List ℕ) (q : Request) → q.auth_type ≡ 0 → application_of r q ≡ None
unfolding application_of
asks_nobody r q e = rw e

-- with auth type 1 the application that is named
pub asks_by_name : (r : List ℕ) (q : Request) → q.auth_type ≡ 1 → application_of r q ≡ application_named r q.auth
unfolding application_of
asks_by_name r q e = rw e

-- who asks was named, and not with auth type 0
pub asks_named : (r : List ℕ) (q : Request) (line : Line) → application_of r q ≡ Some line
    → (q.auth_type ≡ 0 → ⊥) × (application_named r q.auth ≡ Some line)
unfolding application_of
asks_named r q line e = go (eqb q.auth_type 0) refl e
  where
    go : (t : Bool) → eqb q.auth_type 0 ≡ t → (let a : Option Line = when t then None else application_named r q.auth in a) ≡ Some line
        → (q.auth_type ≡ 0 → ⊥) × (application_named r q.auth ≡ Some line)
    go true n w = absurd (some≢none line (sym w))
    go false n w = (eqb-false _ _ n, w)

-- ---- a request that is served passed the order's tests

abbrev pub Refusing : Status → Type 0
Refusing status = eqb (status_number status) 0 ≡ false

pub all_refusing : (r : List ℕ) (q : Request) → AllHave Refusing (refusals r q)
unfolding refusals status_number
all_refusing r q = (refl, (refl, (refl, (refl, (refl, (refl, (refl, (refl, (refl, (refl, tt))))))))))

pub served_passes : (list r : List ℕ) (q : Request) → status_number (result_of list r q).status ≡ 0 → first_of (refusals r q) ≡ None
unfolding result_of refuse
served_passes list r q e = go (first_of (refusals r q)) refl
  where
    go : (o : Option Status) → first_of (refusals r q) ≡ o → o ≡ None
    go None n = refl
    go (Some status) n =
        let same : (result_of list r q).status ≡ status = rw (n, result_of) in
        absurd (eqb-false _ _ (first_has Refusing (refusals r q) (all_refusing r q) status n) (sym (ap status_number same) ∙ e))

-- its auth type is 0 or 1
pub served_type : (list r : List ℕ) (q : Request) → status_number (result_of list r q).status ≡ 0 → q.auth_type ≤ 1
unfolding refusals
served_type list r q e = ltb-false _ _ (none_at (refusals r q) 6 Success (served_passes list r q e))

-- ---- what a result depends on

abbrev result_with : List (Bool × Status) → List Entry → List ListedKey → Request → Result
result_with tests slots keys q = elim (first_of tests) [
  | Some status ↦ refuse status
  | None ↦ operated (format_of (format_for q.content_type)) q.opcode q.body slots keys
]

same_for : (list r r' : List ℕ) (q : Request) (o : Option Line) → application_of r q ≡ o → application_of r' q ≡ o
    → askers_slots r o ≡ askers_slots r' o → result_of list r q ≡ result_of list r' q
unfolding result_of
same_for list r r' q o e e' slots =
    ap₂ (λ (tests : List (Bool × Status)) (entries : List Entry). result_with tests entries (keys_in list) q) tests
    (ap (askers_slots r) e ∙ slots ∙ sym (ap (askers_slots r') e'))
  where
    tests : refusals r q ≡ refusals r' q
    tests = unfold refusals in rw (e, e')

-- of the registry on the line of the application that asks, and on the slots of that line
pub same_result : (list r r' : List ℕ) (q : Request) (line : Line) → application_of r q ≡ Some line → application_of r' q ≡ Some line
    → slots_of r line ≡ slots_of r' line → result_of list r q ≡ result_of list r' q
unfolding askers_slots
same_result list r r' q line e e' slots = same_for list r r' q (Some line) e e' slots

-- ---- with auth type 0: on the request alone

OfCore : Asking → Type 0
OfCore (garbled at) = Unit {0}
OfCore (asks ping) = Unit {0}
OfCore (asks list_providers) = Unit {0}
OfCore (asks (list_opcodes provider)) = Unit {0}
OfCore (asks (import_key key)) = ⊥
OfCore (asks (destroy_key name)) = ⊥
OfCore (asks (export_public_key name)) = ⊥
OfCore (asks (verify_signature name hash signature)) = ⊥

core_operation : (format : Format) (opcode : ℕ) (body : List ℕ) → one_of core_opcodes opcode ≡ true → OfCore (asked format opcode body)
unfolding asked asking_of OfCore one_of
core_operation format opcode body e = go (read_message format (input_fields opcode) body)
  where
    go : (reading : Reading) → OfCore (asking_by opcode reading)
    go (broken at) = tt
    go (read m) =
        either OfCore (eqb opcode 1) (λ _. tt)
        (λ a. either OfCore (eqb opcode 8) (λ _. tt)
        (λ b. either OfCore (eqb opcode 9) (λ _. tt)
        (λ c. (let none-such : one_of core_opcodes opcode ≡ false = rw (a, b, c) in absurd (true≢false (sym e ∙ none-such))))))

-- an operation of the core looks at no slot and no key
pub core_alone : (format : Format) (opcode : ℕ) (body : List ℕ) (slots slots' : List Entry) (keys keys' : List ListedKey) → one_of core_opcodes opcode ≡ true
    → operated format opcode body slots keys ≡ operated format opcode body slots' keys'
unfolding operated perform OfCore
core_alone format opcode body slots slots' keys keys' e = go (asked format opcode body) refl (core_operation format opcode body e)
  where
    go : (o : Asking) → asked format opcode body ≡ o → OfCore o → operated format opcode body slots keys ≡ operated format opcode body slots' keys'
    go (garbled at) q c = rw (q, operated)
    go (asks ping) q c = rw (q, operated)
    go (asks list_providers) q c = rw (q, operated)
    go (asks (list_opcodes provider)) q c = rw (q, operated)
    go (asks (import_key key)) q c = absurd c
    go (asks (destroy_key name)) q c = absurd c
    go (asks (export_public_key name)) q c = absurd c
    go (asks (verify_signature name hash signature)) q c = absurd c

-- what is not refused is asked of the core
open_core : (r : List ℕ) (q : Request) → q.auth_type ≡ 0 → first_of (refusals r q) ≡ None → one_of core_opcodes q.opcode ≡ true
unfolding refusals opcodes_of
open_core r q e n =
    let tests = refusals r q in
    let below : q.provider ≤ 1 = ltb-false _ _ (none_at tests 4 Success n) in
    let not-keystore : eqb q.provider 1 ≡ false = left _ _ (none_at tests 9 Success n) (eq-eqb q.auth_type 0 e) in
    let other : q.provider ≡ 1 → ⊥ = eqb-false _ _ not-keystore in
    let core : q.provider ≡ 0 = omega arith in
    let listed : one_of (opcodes_of q.provider) q.opcode ≡ true = not-false _ (none_at tests 5 Success n) in
    sym (ap (λ (l : List ℕ). one_of l q.opcode) (let x : opcodes_of q.provider ≡ core_opcodes = rw (eq-eqb q.provider 0 core) in x)) ∙ listed
  where
    left : (a b : Bool) → a && b ≡ false → b ≡ true → a ≡ false
    left true b w t = absurd (true≢false (sym t ∙ w))
    left false b w t = refl

pub open_result : (list list' r r' : List ℕ) (q : Request) → q.auth_type ≡ 0 → result_of list r q ≡ result_of list' r' q
unfolding result_of askers_slots
open_result list list' r r' q e =
    same_for list r r' q None (asks_nobody r q e) (asks_nobody r' q e) refl ∙ go (first_of (refusals r' q)) refl
  where
    go : (o : Option Status) → first_of (refusals r' q) ≡ o → result_of list r' q ≡ result_of list' r' q
    go (Some status) n = rw (n, result_of)
    go None n = rw (n, result_of) (core_alone (format_of (format_for q.content_type)) q.opcode q.body _ _ (keys_in list) (keys_in list') (open_core r' q e n))
