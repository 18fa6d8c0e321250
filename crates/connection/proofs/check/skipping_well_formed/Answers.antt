use Rattle.std.proofs.Common.{is_le, is_lt, nat_cmp}
use Rattle.std.proofs.lemmas.Bool.Decides.{nat_tests}
use mathlib.Core.Path.{◌≡◌, refl, sym, ◌∙◌}
use mathlib.Core.Bool.{Bool, true, false, ◌&&◌}
use mathlib.Core.List.{List}
use Prim.Native.Nat.{ℕ, ◌+◌, ◌-◌, ◌≤◌}
use native.Mathlib.Omega.{arith}
use lib.ListN.{length, take, drop}
use lib.Dec.{leb}
use Rattle.wire.proofs.NumberLaws.{all_bytes}
use Rattle.wire.specs.Lists.{all, is_zero}
use Rattle.wire.specs.Numbers.{field}
use Rattle.wire.specs.Request.{content_length, auth_length, header_length}
use Rattle.wire.proofs.BufferLaws.{lent}
use Rattle.wire.proofs.TestLaws.{and_left}
use Rattle.stream.specs.Frame.{legal_start, oversized}
use Rattle.connection.specs.Connection.{held_most, well_formed_connection}
use Rattle.connection.proofs.ConnectionLaws.{legal_most}
use Rattle.connection.proofs.CheckLaws.{skipping_tests_lem}
use Rattle.connection.proofs.check.skipping_well_formed.Goals as goal
use Rattle.connection.proofs.check.skipping_well_formed.Goals.{After-held-1, Joined-is_oversized, then-is_legal_start, else-is_legal_start, then-is_oversized, else-is_oversized}

-- the part that is lent
abbrev behind : List ℕ → List ℕ
behind memory = take (length memory - 9) (drop 9 memory)

abbrev Tests : (memory held : List ℕ) (n : ℕ) → Type 0
Tests memory held n =
    well_formed_connection memory
    ≡ legal_start held
    && (oversized held
    && (leb 1 n && (leb n (content_length held + auth_length held) && all is_zero (drop (9 + header_length held) memory))))

tests : (c : After-held-1) → Tests c.args.memory.now (behind c.args.memory.now) (field 1 8 c.args.memory.now)
tests c =
    let memory : List ℕ = c.args.memory.now in
    rw (lent 9 memory)
    (skipping_tests_lem memory c.requires.0 (all_bytes memory (λ i. (c.shared_slice_known-1.given i).fits)) c.requires.1)

-- as the code joins the tests
joined : (a b c d e : Bool) → a && (b && (c && (d && e))) ≡ ((a && b) && (c && d)) && e
joined false b c d e = refl
joined true false c d e = refl
joined true true false d e = refl
joined true true true d e = refl

passed : {v a b : Bool} → a ≡ true → v ≡ b → v ≡ a && b
passed e w = w ∙ rw e

failed : {v a : Bool} (b : Bool) → a ≡ false → v ≡ a → v ≡ a && b
failed b e w = rw e (w ∙ e)

between : (n s p : ℕ) → p ≡ 1 + s → is_le (nat_cmp 1 n) && is_lt (nat_cmp n p) ≡ leb 1 n && leb n s
between n s p e = grind (arith, nat_tests)

-- the tests but the last
abbrev Front : List ℕ → Bool
Front memory =
    (legal_start (behind memory) && oversized (behind memory))
    && (leb 1 (field 1 8 memory) && leb (field 1 8 memory) (content_length (behind memory) + auth_length (behind memory)))

front : (c : Joined-is_oversized) → c.if-is_oversized.value ≡ Front c.args.memory.now
front c =
    let memory : List ℕ = c.args.memory.now in
    let most : c.from.result + c.from-2.result ≡ content_length (behind memory) + auth_length (behind memory) = omega (arith, c.read_u32.ensures, c.read_u16.ensures) in
    let first : c.if-is_legal_start.value ≡ legal_start (behind memory) && oversized (behind memory) = elim c.if-is_legal_start.branch [
      | then-is_legal_start w ↦ passed (sym c.is_legal_start.ensures ∙ w.if-is_legal_start.true) (w.value-is ∙ w.is_oversized.ensures)
      | else-is_legal_start w ↦ failed _ (sym c.is_legal_start.ensures ∙ w.if-is_legal_start.false) (w.value-is ∙ c.is_legal_start.ensures)
    ] in
    rw (← c.read_u64-to_go.ensures, ← most, ← first) (elim c.if-is_oversized.branch [
      | then-is_oversized w ↦ passed w.if-is_oversized.true (w.value-is ∙ w.contains.ensures.value ∙ between c.read_u64-to_go.result (c.from.result + c.from-2.result) _ (omega arith))
      | else-is_oversized w ↦ failed _ w.if-is_oversized.false w.value-is
    ])

-- there is room for the header
room : (memory : List ℕ) → Front memory ≡ true → header_length (behind memory) ≤ held_most
room memory e = omega (arith, legal_most (behind memory) (and_left _ _ (and_left _ _ e)))

pub overflow_add-header_length : goal.overflow_add-header_length
overflow_add-header_length c =
    let w = (goal.at.overflow_add-header_length c).Joined-is_oversized in
    omega (arith, room c.args.memory.now (sym (front w) ∙ c.if-contains.true), c.header_length.ensures)

pub is_zero_from-requires : goal.is_zero_from-requires
is_zero_from-requires c =
    let w = (goal.at.is_zero_from-requires c).Joined-is_oversized in
    omega (arith, room c.args.memory.now (sym (front w) ∙ c.if-contains.true), c.header_length.ensures, c.requires.0)

pub returns-then-contains : goal.returns-then-contains
returns-then-contains c =
    let w = (goal.at.returns-then-contains c).Joined-is_oversized in
    let h = (goal.at.returns-then-contains c).After-held-1 in
    rw (tests h, joined (legal_start (behind c.args.memory.now)), sym (front w) ∙ c.if-contains.true)
    (c.is_zero_from.ensures ∙ rw c.header_length.ensures)

pub returns-else-contains : goal.returns-else-contains
returns-else-contains c =
    let w = (goal.at.returns-else-contains c).Joined-is_oversized in
    let h = (goal.at.returns-else-contains c).After-held-1 in
    rw (tests h, joined (legal_start (behind c.args.memory.now)), sym (front w) ∙ c.if-contains.false) c.if-contains.false
