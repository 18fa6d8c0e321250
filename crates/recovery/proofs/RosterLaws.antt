-- The registry of a roster has no use.
use mathlib.Core.Path.{◌≡◌, refl, sym, ap, ap₂, ◌∙◌}
use mathlib.Core.Bool.{Bool, true, ◌&&◌}
use mathlib.Core.List.{List, [], ◌∷◌, ◌++◌, append_assoc, map, flatten}
use Prim.Native.Nat.{ℕ, suc, ◌+◌, ◌-◌, ◌*◌, ◌≤◌}
use native.Mathlib.Omega.{arith}
use borrow.Author.Tests.{eq-eqb}
use lib.ListN.{length, drop, replicate}
use lib.Seq.{take_at, drop_at}
use lib.Dec.{eqb}
use Rattle.wire.specs.Lists.{all, is_zero, padded, blocks}
use Rattle.wire.proofs.TestLaws.{and_left, and_right}
use Rattle.wire.proofs.ListLaws.{all_zeros, all_drop, length_padded}
use Rattle.wire.proofs.NumberLaws.{zero_field}
use Rattle.wire.proofs.BlockLaws.{zero_blocks}
use Rattle.keys.specs.Names.{application_name_most}
use Rattle.keys.proofs.NameLaws.{legal_short}
use Rattle.registry.specs.Slots.{slot_size, uses_at, uses_in}
use Rattle.registry.specs.Registry.{line_count, slot_count, line_head, line_size, registry_size, slots_in, line_of, registry_of}
use Rattle.registry.proofs.LineLaws.{line_long}
use Rattle.registry.proofs.KeylessLaws.{is_legal, LegalNames}
use Rattle.recovery.specs.Unused.{never_used}

abbrev idle : (line : List ℕ) → Bool
idle line = all (λ slot. eqb (uses_in slot) 0) (slots_in line)

zero_idle : (bs : List (List ℕ)) → all (λ slot. all is_zero slot) bs ≡ true → all (λ slot. eqb (uses_in slot) 0) bs ≡ true
zero_idle [] e = refl
zero_idle (b ∷ bs) e =
    ap₂ ◌&&◌ (eq-eqb _ _ (zero_field uses_at 4 b (and_left (all is_zero b) _ e))) (zero_idle bs (and_right (all is_zero b) _ e))

free_idle : (line : List ℕ) → all is_zero (drop line_head line) ≡ true → idle line ≡ true
free_idle line z = zero_idle (slots_in line) (zero_blocks slot_count slot_size (drop line_head line) z)

zero_lines : (ls : List (List ℕ)) → all (λ line. all is_zero line) ls ≡ true → all idle ls ≡ true
zero_lines [] e = refl
zero_lines (l ∷ ls) e =
    ap₂ ◌&&◌ (free_idle l (all_drop is_zero line_head l (and_left (all is_zero l) _ e))) (zero_lines ls (and_right (all is_zero l) _ e))

named_idle : (name : List ℕ) → is_legal name ≡ true → idle (line_of name) ≡ true
unfolding line_of
named_idle name legal =
    let short : length name ≤ application_name_most = legal_short application_name_most name legal in
    let behind : drop line_head (line_of name) ≡ replicate (slot_count * slot_size) 0
    = drop_at (length name ∷ padded application_name_most name) (replicate (slot_count * slot_size) 0) line_head (ap suc (length_padded application_name_most name short)) in
    free_idle (line_of name) (ap (all is_zero) behind ∙ all_zeros (slot_count * slot_size))

lines_idle : (names : List (List ℕ)) → all is_legal names ≡ true → (k n : ℕ)
    → all idle (blocks (length names + k) line_size (flatten (map line_of names) ++ replicate n 0)) ≡ true
unfolding flatten
lines_idle [] e k n = zero_lines (blocks (0 + k) line_size (replicate n 0)) (zero_blocks (0 + k) line_size (replicate n 0) (all_zeros n))
lines_idle (name ∷ names) e k n =
    let line : List ℕ = line_of name in
    let rest : List ℕ = flatten (map line_of names) ++ replicate n 0 in
    let legal : is_legal name ≡ true = and_left (is_legal name) _ e in
    let long : length line ≡ line_size = line_long name (legal_short application_name_most name legal) in
    let count : length (name ∷ names) + k ≡ suc (length names + k) = omega arith in
    ap₂ (λ (m : ℕ) (l : List ℕ). all idle (blocks m line_size l)) count (append_assoc line (flatten (map line_of names)) (replicate n 0))
    ∙ ap₂ (λ (x y : List ℕ). idle x && all idle (blocks (length names + k) line_size y))
    (take_at line rest line_size long) (drop_at line rest line_size long)
    ∙ ap₂ ◌&&◌ (named_idle name legal) (lines_idle names (and_right (is_legal name) _ e) k n)

pub roster_unused : (names : List (List ℕ)) → LegalNames names → never_used (registry_of names) ≡ true
unfolding never_used registry_of
roster_unused names l =
    let all_of : length names + (line_count - length names) ≡ line_count = omega (arith, l.few) in
    let bytes : List ℕ = flatten (map line_of names) in
    ap (λ (m : ℕ). all idle (blocks m line_size (bytes ++ replicate (registry_size - length bytes) 0))) (sym all_of)
    ∙ lines_idle names l.legal (line_count - length names) (registry_size - length bytes)
