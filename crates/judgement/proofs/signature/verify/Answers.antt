use mathlib.Core.Path.{◌≡◌, sym, ◌∙◌}
use mathlib.Core.Bool.{true}
use Prim.Native.Nat.{◌<◌}
use Rattle.keys.specs.Names.{legal_name, key_name_most}
use Rattle.registry.specs.Registry.{line_count, slots_of}
use Rattle.registry.specs.WellFormed.{well_formed_registry}
use Rattle.registry.proofs.WellFormedLaws.{good_of}
use Rattle.lookup.specs.code.Places.{Within}
use Rattle.judgement.specs.declared.Status.TheVariants.{PsaErrorInvalidArgument, PsaErrorDoesNotExist}
use Rattle.judgement.proofs.SourceLaws.{at_none}
use Rattle.judgement.proofs.DecidedLaws.{refusal, bad_verified, none_verified, verified_by_lem, counting}
use Rattle.judgement.proofs.signature.verify.Goals as goal
use Rattle.judgement.proofs.signature.verify.Goals.{After-find_key-place, Else-not-is_legal}

legal : (c : Else-not-is_legal) → legal_name key_name_most c.args.name.now ≡ true
legal c = sym c.is_legal.ensures ∙ c.if-not-is_legal.false

-- what a function that reads the key wants
there : (c : After-find_key-place)
    → (
    (well_formed_registry c.args.registry.now ≡ true) × (c.args.line.0 < line_count) × Within c.args.list.now c.find_key-place.result)
there c =
    (c.requires.0, c.requires.1, c.find_key-place.ensures.within)

pub returns-then-not-is_legal : goal.returns-then-not-is_legal
returns-then-not-is_legal c body =
    rw c.refused.ensures
    (refusal _ _ body PsaErrorInvalidArgument (bad_verified _ _ _ (sym c.is_legal.ensures ∙ c.if-not-is_legal.true) _ _))

pub find_key-place-requires : goal.find_key-place-requires
find_key-place-requires c =
    ((good_of c.args.registry.now c.requires.0).size, c.requires.1, c.requires.2)

pub returns-in-Nothing : goal.returns-in-Nothing
returns-in-Nothing c body =
    let w = (goal.at.returns-in-Nothing c).Else-not-is_legal in
    let s = c.args in
    rw c.refused-in-Nothing.ensures
    (refusal _ _ body PsaErrorDoesNotExist
    (none_verified _ _ _ (legal w) (at_none s.registry.now s.list.now s.line s.name.now _ c.find_key-place.ensures c.in-Nothing.is) _ _))

pub is_verifiable-allowed-requires : goal.is_verifiable-allowed-requires
is_verifiable-allowed-requires c =
    let w = (goal.at.is_verifiable-allowed-requires c).After-find_key-place in
    there w

pub key_bits-bits-requires : goal.key_bits-bits-requires
key_bits-bits-requires c =
    let w = (goal.at.key_bits-bits-requires c).After-find_key-place in
    there w

pub key_bytes-key-requires : goal.key_bytes-key-requires
key_bytes-key-requires c =
    let w = (goal.at.key_bytes-key-requires c).After-find_key-place in
    there w

pub returns : goal.returns
returns c body =
    let w = (goal.at.returns c).Else-not-is_legal in
    let s = c.args in
    let at = c.find_key-place.ensures in
    let somewhere = c.in_default.not-Nothing in
    rw (c.counted.ensures, verified_by_lem s.registry.now s.list.now s.line s.name.now _ at (legal w) somewhere s.hash.now s.signature.now, ← c.is_verifiable-allowed.ensures, ← c.key_bits-bits.ensures, ← c.key_bytes-key.ensures)
    (counting s.registry.now s.list.now s.line s.name.now _ at (legal w) somewhere body _
    (c.verify_with.ensures (slots_of s.registry.now s.line) s.list.now body))
