-- Laws of a slot's bytes: a key written is read as itself, and a key that a registry may hold is a well-formed slot.
use mathlib.Core.Path.{◌≡◌, refl, sym, ap, ◌∙◌}
use mathlib.Core.Bool.{Bool, true, false, true≢false, ◌&&◌, and-false, or-true, or-false}
use mathlib.Core.List.{List, [], ◌∷◌, ◌++◌, append_assoc, append-nil}
use Prim.Native.Nat.{ℕ, zero, suc, ◌+◌, ◌-◌, ◌≤◌, ◌<◌}
use native.Mathlib.Omega.{arith}
use borrow.Author.Tests.{ne_eqb, eqb-false, leb-true, leb-false}
use lib.ListN.{length, take, drop, get_or, replicate, length-append, length-replicate, length-take, length-drop}
use lib.Seq.{take_at, take-append_seam, drop-append_seam, drop_at, drop-drop, get_or-drop}
use lib.Dec.{leb, eqb}
use Rattle.wire.specs.Choice.{when◌then◌else◌}
use Rattle.wire.specs.Lists.{all, every, is_zero, padded}
use Rattle.wire.specs.Numbers.{little_endian_of, field}
use Rattle.keys.proofs.KeyLaws.{legal_data_lem, data_by_length, long_data}
use Rattle.wire.proofs.TestLaws.{every_at}
use Rattle.wire.proofs.ListLaws.{all_zeros, length_padded}
use Rattle.wire.proofs.NumberLaws.{length_number, field_back}
use Rattle.keys.specs.Names.{legal_name, key_name_most}
use Rattle.registry.specs.Names.{name_in}
use Rattle.keys.specs.Key.{Key, data_most, legal_data, legal_bits}
use Rattle.registry.specs.Slots.{Entry, free, held, name_of, data_length_at, data_at, bits_at, export_at, verify_at, uses_at, slot_size, flag, key_bytes, slot_bytes, data_in, key_in, slot_of, uses_in, behind_name, behind_data, key_tests, well_formed_slot}
use Rattle.keys.proofs.NameLaws.{legal_short}

-- ---- what bytes stand for

-- the name of what they stand for
pub name_of_lem : (slot : List ℕ) → name_of (slot_of slot) ≡ name_in slot
unfolding slot_of
name_of_lem slot = go (get_or slot 0 0) refl
  where
    go : (n : ℕ) → get_or slot 0 0 ≡ n → name_of (when eqb n 0 then free else held (key_in slot)) ≡ take n (drop 1 slot)
    go zero e = refl
    go (suc n) e = rw (ne_eqb (suc n) 0 (λ q. (let w : ⊥ = omega arith in w)), e)

-- without a name a slot is well formed if it is all zero, with one if it passes the tests of a key
pub free_slot : (slot : List ℕ) → get_or slot 0 0 ≡ 0 → well_formed_slot slot ≡ all is_zero slot
unfolding well_formed_slot legal_name
free_slot slot e = rw e (or-false (all is_zero slot))

pub key_slot : (slot : List ℕ) → (get_or slot 0 0 ≡ 0 → ⊥) → well_formed_slot slot ≡ every (key_tests slot)
unfolding well_formed_slot
key_slot [] h = absurd (h refl)
key_slot (x ∷ slot) h = rw (ne_eqb x 0 h)

-- a test that fails
pub every_fails : (ts : List Bool) (k : ℕ) → get_or ts k true ≡ false → every ts ≡ false
every_fails [] k e = absurd (true≢false e)
every_fails (t ∷ ts) zero e = ap (λ (a : Bool). a && every ts) e
every_fails (t ∷ ts) (suc k) e = ap (λ (a : Bool). t && a) (every_fails ts k e) ∙ and-false t

pub key_fails : (slot : List ℕ) → (get_or slot 0 0 ≡ 0 → ⊥) → (k : ℕ) → get_or (key_tests slot) k true ≡ false → well_formed_slot slot ≡ false
key_fails slot named k e = key_slot slot named ∙ every_fails (key_tests slot) k e

-- the bytes behind a name, as a part by the name's length
pub behind_lent : (most n : ℕ) (block : List ℕ) → n ≡ get_or block 0 0 → take (1 + most - (1 + n)) (drop (1 + n) block) ≡ behind_name most block
behind_lent most n block e =
    let less : 1 + most - (1 + get_or block 0 0) ≡ most - get_or block 0 0 = omega arith in
    ap (λ (k : ℕ). take (1 + most - (1 + k)) (drop (1 + k) block)) e ∙ ap (λ (k : ℕ). take k (drop (1 + get_or block 0 0) block)) less

-- the data of a well-formed slot
abbrev pub ShortEntry : Entry → Type 0
ShortEntry free = Unit {0}
ShortEntry (held key) = length key.bytes ≤ data_most

pub entry_short : (slot : List ℕ) → well_formed_slot slot ≡ true → ShortEntry (slot_of slot)
unfolding slot_of
entry_short slot ok = go (eqb (get_or slot 0 0) 0) refl
  where
    go : (t : Bool) → eqb (get_or slot 0 0) 0 ≡ t → ShortEntry (when t then free else held (key_in slot))
    go true e = tt
    go false e = legal_data_lem (data_in slot) (every_at (key_tests slot) 2 (sym (key_slot slot (eqb-false _ _ e)) ∙ ok))

-- ---- the lengths in a slot

module _ (slot : List ℕ) (long : length slot ≡ slot_size) where
  pub name_length_lem : get_or slot 0 0 < 256 → length (name_in slot) ≡ get_or slot 0 0
  name_length_lem h = simp (length-take, length-drop) (omega arith)

  data_length_lem : field data_length_at 2 slot ≤ data_most → length (data_in slot) ≡ field data_length_at 2 slot
  data_length_lem h = simp (length-take, length-drop) (omega arith)

  -- the length alone decides, also where it is more than the slot has bytes
  pub data_judged : legal_data (replicate (field data_length_at 2 slot) 0) ≡ legal_data (data_in slot)
  data_judged = go (leb (field data_length_at 2 slot) data_most) refl
    where
      zeros : length {A = ℕ} (replicate (field data_length_at 2 slot) 0) ≡ field data_length_at 2 slot
      zeros = length-replicate {A = ℕ} (field data_length_at 2 slot) 0

      go : (t : Bool) → leb (field data_length_at 2 slot) data_most ≡ t → legal_data (replicate (field data_length_at 2 slot) 0) ≡ legal_data (data_in slot)
      go true e = data_by_length _ _ (zeros ∙ sym (data_length_lem (leb-true _ _ e)))
      go false e =
          let long-field : data_most < field data_length_at 2 slot = leb-false _ _ e in
          let more : data_most < length (data_in slot) = simp (length-take, length-drop) (omega arith) in
          long_data _ (omega (arith, zeros, long-field)) ∙ sym (long_data _ more)

  -- a test of data of that length
  pub data_tested : {d : ℕ} {r : Bool} → d ≡ field data_length_at 2 slot → ((bytes : List ℕ) → length bytes ≡ d → r ≡ legal_data bytes) → r ≡ legal_data (data_in slot)
  data_tested e tested = tested (replicate (field data_length_at 2 slot) 0) (length-replicate {A = ℕ} (field data_length_at 2 slot) 0 ∙ sym e) ∙ data_judged

-- data that pass it are short
pub data_short : (d : ℕ) {r : Bool} → r ≡ true → ((bytes : List ℕ) → length bytes ≡ d → r ≡ legal_data bytes) → d ≤ data_most
data_short d e tested =
    omega (arith, length-replicate {A = ℕ} d 0, legal_data_lem (replicate d 0) (sym (tested (replicate d 0) (length-replicate {A = ℕ} d 0)) ∙ e))

-- the bytes behind them, as a part
pub data_lent : (d : ℕ) (slot : List ℕ) → d ≡ field data_length_at 2 slot → take (bits_at - (data_at + d)) (drop (data_at + d) slot) ≡ behind_data slot
data_lent d slot e =
    let less : bits_at - (data_at + d) ≡ data_most - d = omega arith in
    ap (λ (k : ℕ). take k (drop (data_at + d) slot)) less ∙ ap (λ (k : ℕ). take (data_most - k) (drop (data_at + k) slot)) e

-- ---- a key that is written and read again

module _ (key : Key) (hn : length key.name ≤ key_name_most) (hd : length key.bytes ≤ data_most) where
  -- what stands from each part on
  flags : List ℕ
  flags = flag key.export_allowed ∷ flag key.verify_allowed ∷ little_endian_of 4 0

  from_bits : List ℕ
  from_bits = little_endian_of 2 key.bits ++ flags

  from_size : List ℕ
  from_size = little_endian_of 2 (length key.bytes) ++ (padded data_most key.bytes ++ from_bits)

  from_name : drop 1 (key_bytes key) ≡ padded key_name_most key.name ++ from_size
  unfolding key_bytes from_size from_bits flags
  from_name = simp append_assoc

  from_size_lem : drop data_length_at (key_bytes key) ≡ from_size
  from_size_lem =
      sym (drop-drop key_name_most 1 (key_bytes key)) ∙ ap (drop key_name_most) from_name
      ∙ drop_at (padded key_name_most key.name) from_size key_name_most (length_padded key_name_most key.name hn)

  from_data : drop data_at (key_bytes key) ≡ padded data_most key.bytes ++ from_bits
  unfolding from_size
  from_data =
      sym (drop-drop 2 data_length_at (key_bytes key)) ∙ ap (drop 2) from_size_lem
      ∙ drop_at (little_endian_of 2 (length key.bytes)) (padded data_most key.bytes ++ from_bits) 2 (length_number 2 (length key.bytes))

  from_bits_lem : drop bits_at (key_bytes key) ≡ from_bits
  from_bits_lem =
      sym (drop-drop data_most data_at (key_bytes key)) ∙ ap (drop data_most) from_data
      ∙ drop_at (padded data_most key.bytes) from_bits data_most (length_padded data_most key.bytes hd)

  from_flags : drop export_at (key_bytes key) ≡ flags
  unfolding from_bits
  from_flags =
      sym (drop-drop 2 bits_at (key_bytes key)) ∙ ap (drop 2) from_bits_lem
      ∙ drop_at (little_endian_of 2 key.bits) flags 2 (length_number 2 key.bits)

  first_back : get_or (key_bytes key) 0 0 ≡ length key.name
  unfolding key_bytes
  first_back = refl

  name_back : name_in (key_bytes key) ≡ key.name
  unfolding key_bytes
  name_back =
      ap (take (length key.name)) (from_name ∙ append_assoc key.name (replicate (key_name_most - length key.name) 0) from_size)
      ∙ take-append_seam key.name (replicate (key_name_most - length key.name) 0 ++ from_size)

  size_back : field data_length_at 2 (key_bytes key) ≡ length key.bytes
  unfolding from_size
  size_back = field_back data_length_at 1 (length key.bytes) (key_bytes key) _ from_size_lem

  data_back : data_in (key_bytes key) ≡ key.bytes
  data_back =
      ap (λ (n : ℕ). take n (drop data_at (key_bytes key))) size_back
      ∙ ap (take (length key.bytes)) (from_data ∙ append_assoc key.bytes (replicate (data_most - length key.bytes) 0) from_bits)
      ∙ take-append_seam key.bytes (replicate (data_most - length key.bytes) 0 ++ from_bits)

  bits_back : field bits_at 2 (key_bytes key) ≡ key.bits
  unfolding from_bits
  bits_back = field_back bits_at 1 key.bits (key_bytes key) flags from_bits_lem

  export_flag : get_or (key_bytes key) export_at 0 ≡ flag key.export_allowed
  unfolding flags
  export_flag = sym (get_or-drop export_at (key_bytes key) 0 0) ∙ ap (λ (l : List ℕ). get_or l 0 0) from_flags

  verify_flag : get_or (key_bytes key) verify_at 0 ≡ flag key.verify_allowed
  unfolding flags
  verify_flag = sym (get_or-drop export_at (key_bytes key) 1 0) ∙ ap (λ (l : List ℕ). get_or l 1 0) from_flags

  no_uses : uses_in (key_bytes key) ≡ 0
  unfolding flags
  no_uses =
      field_back uses_at 3 0 (key_bytes key) []
      (sym (drop-drop 2 export_at (key_bytes key)) ∙ ap (drop 2) from_flags ∙ sym (append-nil (little_endian_of 4 0)))

  flag_back : (t : Bool) → eqb (flag t) 1 ≡ t
  flag_back true = refl
  flag_back false = refl

  key_back : key_in (key_bytes key) ≡ key
  key_back = λ j. record {
    name = name_back j;
    bytes = data_back j;
    bits = bits_back j;
    export_allowed = (ap (λ (x : ℕ). eqb x 1) export_flag ∙ flag_back key.export_allowed) j;
    verify_allowed = (ap (λ (x : ℕ). eqb x 1) verify_flag ∙ flag_back key.verify_allowed) j;
  }

  pub slot_back : 1 ≤ length key.name → slot_of (key_bytes key) ≡ held key
  unfolding slot_of
  slot_back p = rw (ne_eqb (get_or (key_bytes key) 0 0) 0 (λ z. (let x : ⊥ = omega (arith, first_back) in x))) (ap held key_back)

  pub length_key : length (key_bytes key) ≡ slot_size
  unfolding key_bytes
  length_key = simp (length-append, length-replicate, length_number) (omega arith)

  behind_name_lem : all is_zero (behind_name key_name_most (key_bytes key)) ≡ true
  behind_name_lem =
      let n : ℕ = length key.name in
      let zeros : List ℕ = replicate (key_name_most - n) 0 in
      let from : drop (1 + n) (key_bytes key) ≡ zeros ++ from_size
      = (sym (drop-drop n 1 (key_bytes key)) ∙ ap (drop n) (from_name ∙ append_assoc key.name zeros from_size) ∙ drop-append_seam key.name (zeros ++ from_size)) in
      ap (λ (m : ℕ). all is_zero (take (key_name_most - m) (drop (1 + m) (key_bytes key)))) first_back
      ∙ ap (λ (l : List ℕ). all is_zero (take (key_name_most - n) l)) from
      ∙ ap (all is_zero) (take_at zeros from_size (key_name_most - n) (length-replicate (key_name_most - n) 0))
      ∙ all_zeros (key_name_most - n)

  behind_data_lem : all is_zero (behind_data (key_bytes key)) ≡ true
  behind_data_lem =
      let n : ℕ = length key.bytes in
      let zeros : List ℕ = replicate (data_most - n) 0 in
      let from : drop (data_at + n) (key_bytes key) ≡ zeros ++ from_bits
      = (sym (drop-drop n data_at (key_bytes key)) ∙ ap (drop n) (from_data ∙ append_assoc key.bytes zeros from_bits) ∙ drop-append_seam key.bytes (zeros ++ from_bits)) in
      ap (λ (m : ℕ). all is_zero (take (data_most - m) (drop (data_at + m) (key_bytes key)))) size_back
      ∙ ap (λ (l : List ℕ). all is_zero (take (data_most - n) l)) from
      ∙ ap (all is_zero) (take_at zeros from_bits (data_most - n) (length-replicate (data_most - n) 0))
      ∙ all_zeros (data_most - n)

-- ---- well-formed slots

pub free_good : well_formed_slot (slot_bytes free) ≡ true
unfolding well_formed_slot slot_bytes
free_good = rw (all_zeros slot_size)

-- what a registry holds of a key: name, data and bits within their bounds
pub record Legal (key : Key) : Type 0 where
  pub name : legal_name key_name_most key.name ≡ true
  pub bytes : legal_data key.bytes ≡ true
  pub bits : legal_bits key.bits ≡ true

module _ (key : Key) (legal : Legal key) where
  pub short_name : length key.name ≤ key_name_most
  short_name = legal_short key_name_most key.name legal.name

  pub short_data : length key.bytes ≤ data_most
  short_data = legal_data_lem key.bytes legal.bytes

  flag_small : (t : Bool) → leb (flag t) 1 ≡ true
  flag_small true = refl
  flag_small false = refl

  pub key_good : well_formed_slot (key_bytes key) ≡ true
  unfolding well_formed_slot
  key_good =
      let hn = short_name in
      let hd = short_data in
      let tests : every (key_tests (key_bytes key)) ≡ true =
      rw (name_back key hn hd, legal.name, behind_name_lem key hn hd, data_back key hn hd, legal.bytes, behind_data_lem key hn hd, bits_back key hn hd, legal.bits, export_flag key hn hd, flag_small key.export_allowed, verify_flag key hn hd, flag_small key.verify_allowed) refl in
      rw tests (or-true (all is_zero (key_bytes key)))

  pub key_length : length (key_bytes key) ≡ slot_size
  key_length = length_key key short_name short_data

  pub key_name : name_in (key_bytes key) ≡ key.name
  key_name = name_back key short_name short_data

  pub key_unused : uses_in (key_bytes key) ≡ 0
  key_unused = no_uses key short_name short_data
