-- A slot that is filled or cleared is read as the key, or as free, and every other slot of every line stays.
use mathlib.Core.Path.{◌≡◌, sym, ap, ◌∙◌}
use mathlib.Core.Logic.{◌⊎◌, inl, inr, ⊎_elim}
use mathlib.Core.List.{List}
use Prim.Native.Nat.{ℕ, ◌+◌, ◌≤◌, ◌<◌}
use native.Mathlib.Decide.{dec_lt}
use native.Mathlib.Omega.{arith}
use lib.ListN.{length, take, drop, get_or, length-replicate}
use Rattle.wire.specs.Lists.{put}
use Rattle.wire.proofs.PutLaws.{part_put, part_before, part_behind}
use Rattle.keys.specs.Key.{Key}
use Rattle.keys.specs.Names.{key_name_most}
use Rattle.registry.specs.Slots.{free, held, key_bytes, slot_bytes, slot_of, slot_size}
use Rattle.registry.specs.Registry.{line_count, slot_count, registry_size, slots_of, fill, clear, place, changed}
use Rattle.registry.specs.declared.Line.{Line}
use Rattle.registry.specs.declared.Slot.{Slot}
use Rattle.registry.proofs.SlotLaws.{Legal, key_length, short_name, short_data, slot_back}
use Rattle.keys.proofs.NameLaws.{legal_some}
use Rattle.registry.proofs.RegistryLaws.{place_of, slot_there_lem}

-- two slots do not overlap
apart : (l k l' k' : ℕ) → k < slot_count → k' < slot_count → (l ≡ l' → k ≡ k' → ⊥)
    → (place_of l' k' + slot_size ≤ place_of l k) ⊎ (place_of l k + slot_size ≤ place_of l' k')
apart l k l' k' h h' other =
    elim (dec_lt l' l) [
      | yes a ↦ inl (omega arith)
      | no a ↦ elim (dec_lt l l') [
        | yes b ↦ inr (omega arith)
        | no b ↦ elim (dec_lt k' k) [
          | yes c ↦ inl (omega arith)
          | no c ↦ elim (dec_lt k k') [
            | yes d ↦ inr (omega arith)
            | no d ↦ absurd (other (omega arith) (omega arith))
          ]
        ]
      ]
    ]

module _ (r : List ℕ) (size : length r ≡ registry_size) (line : Line) (hl : line.0 < line_count) (slot : Slot) (hk : slot.0 < slot_count)
    (v : List ℕ) (long : length v ≡ slot_size) where
  abbrev at : ℕ
  at = place line slot

  within : at + slot_size ≤ length r
  within = omega arith

  written_there : get_or (slots_of (put r at v) line) slot.0 free ≡ slot_of v
  written_there =
      let w = within in
      slot_there_lem (put r at v) line slot.0 hk
      ∙ ap slot_of (ap (λ (n : ℕ). take n (drop at (put r at v))) (sym long) ∙ part_put r at v (omega arith))

  others_stay : (line' : Line) (slot' : Slot) → slot'.0 < slot_count → (line.0 ≡ line'.0 → slot.0 ≡ slot'.0 → ⊥)
      → get_or (slots_of (put r at v) line') slot'.0 free ≡ get_or (slots_of r line') slot'.0 free
  others_stay line' slot' h' other =
      let w = within in
      let at' : ℕ = place line' slot' in
      let same : take slot_size (drop at' (put r at v)) ≡ take slot_size (drop at' r) =
      ⊎_elim
      (λ before. part_before r at v at' slot_size (omega arith) before)
      (λ behind. ap (take slot_size) (part_behind r at v at' (omega arith) (omega arith)))
      (apart line.0 slot.0 line'.0 slot'.0 hk h' other) in
      slot_there_lem (put r at v) line' slot'.0 h' ∙ ap slot_of same ∙ sym (slot_there_lem r line' slot'.0 h')

module _ (r : List ℕ) (size : length r ≡ registry_size) (line : Line) (hl : line.0 < line_count) (slot : Slot) (hk : slot.0 < slot_count) where
  -- what the slot is afterwards
  pub filled : (key : Key) → Legal key → get_or (slots_of (changed r line (fill slot key)) line) slot.0 free ≡ held key
  unfolding changed
  filled key legal =
      written_there r size line hl slot hk (key_bytes key) (key_length key legal)
      ∙ slot_back key (short_name key legal) (short_data key legal) (legal_some key_name_most key.name legal.name)

  pub cleared : get_or (slots_of (changed r line (clear slot)) line) slot.0 free ≡ free
  unfolding changed slot_bytes slot_of
  cleared = written_there r size line hl slot hk (slot_bytes free) (length-replicate {A = ℕ} slot_size 0)

  -- every other slot stays
  module _ (line' : Line) (slot' : Slot) (h' : slot'.0 < slot_count) (other : line.0 ≡ line'.0 → slot.0 ≡ slot'.0 → ⊥) where
    pub filled_apart : (key : Key) → Legal key
        → get_or (slots_of (changed r line (fill slot key)) line') slot'.0 free ≡ get_or (slots_of r line') slot'.0 free
    unfolding changed
    filled_apart key legal = others_stay r size line hl slot hk (key_bytes key) (key_length key legal) line' slot' h' other

    pub cleared_apart : get_or (slots_of (changed r line (clear slot)) line') slot'.0 free ≡ get_or (slots_of r line') slot'.0 free
    unfolding changed slot_bytes
    cleared_apart = others_stay r size line hl slot hk (slot_bytes free) (length-replicate {A = ℕ} slot_size 0) line' slot' h' other
