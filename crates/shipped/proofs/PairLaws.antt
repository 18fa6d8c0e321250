-- Laws of one pair: what the list's reading makes of it, and that bytes behind a pair do not matter to it.
use Rattle.std.proofs.Common.{Option, Some, None}
use mathlib.Core.Path.{◌≡◌, refl, sym, ap, ap₂, ◌∙◌}
use mathlib.Core.Bool.{Bool, true, false, true≢false, ◌&&◌, and-false}
use mathlib.Core.List.{List, [], ◌∷◌, ◌++◌}
use Prim.Native.Nat.{ℕ, ◌+◌, ◌≤◌, ◌<◌}
use native.Mathlib.Omega.{arith}
use native.Mathlib.Decide.{dec_lt}
use borrow.Author.Tests.{lt-ltb, le-ltb}
use lib.Dec.{ltb, eqb}
use lib.ListN.{length, drop, get_or, length-drop}
use lib.Seq.{drop-drop, drop-append-le}
use Rattle.wire.specs.Choice.{when◌then◌else◌}
use Rattle.wire.specs.Lists.{every}
use Rattle.wire.specs.Numbers.{field}
use Rattle.wire.proofs.NumberLaws.{field_byte}
use Rattle.wire.proofs.TestLaws.{and_left, and_right}
use Rattle.keys.specs.Names.{legal_name, key_name_most, is_new}
use Rattle.records.specs.Records.{Record, record_length, value_in, record_in, is_whole, next, stop, read_records}
use Rattle.records.proofs.RecordLaws.{whole_fit, whole_room, room_front, size_append, record_append, whole_append, records_empty, records_cut, records_on, after_step}
use Rattle.shipped.specs.Shipped.{ListedKey, names_of, listed_most, Pairs, whole, named, data_tests, pair_step, pairs_done}
use Rattle.shipped.specs.code.Pairs.{is_name, is_data, name_length, data_length, behind, is_pair, pair_size, pair_length, key_in}

abbrev listed : (name bytes : List ℕ) → ListedKey
listed n d = record { name = n; bytes = d }

abbrev pub read_pairs : (bytes : List ℕ) → Pairs → Option (List ListedKey)
read_pairs bytes state = read_records None pair_step pairs_done bytes state

-- the tag of a whole record, as its first byte
pub tag_there : (bytes : List ℕ) → is_whole bytes ≡ true → field 0 1 bytes ≡ get_or bytes 0 0
tag_there bytes good = field_byte 0 bytes (omega (arith, whole_room bytes good))

-- ---- a pair's records are whole

module _ (bytes : List ℕ) (e : is_pair bytes ≡ true) where
  pub pair_name : is_name bytes ≡ true
  unfolding is_pair
  pair_name = and_left (is_name bytes) (is_data (behind bytes)) e

  pub pair_data : is_data (behind bytes) ≡ true
  unfolding is_pair
  pair_data = and_right (is_name bytes) (is_data (behind bytes)) e

  pub pair_whole : is_whole bytes ≡ true
  unfolding is_name
  pair_whole = and_left (is_whole bytes) _ pair_name

  pub behind_whole : is_whole (behind bytes) ≡ true
  unfolding is_data
  behind_whole = and_left (is_whole (behind bytes)) _ pair_data

  pub pair_long : pair_size bytes ≡ record_length bytes + record_length (behind bytes)
  unfolding pair_size
  pair_long = refl

  pub pair_room : pair_size bytes ≤ length bytes
  pair_room = omega (arith, pair_long, whole_room bytes pair_whole, whole_room (behind bytes) behind_whole, length-drop (record_length bytes) bytes)

-- what a length that was read says, and what it says that none was
told : (t : Bool) (size n : ℕ) → Some n ≡ (when t then Some size else None) → (t ≡ true) × (n ≡ size)
told true size n e = (refl, cc)
told false size n e = cc

untold : (t : Bool) (size : ℕ) → None ≡ (when t then Some size else None) → t ≡ false
untold true size e = cc
untold false size e = refl

module _ (bytes : List ℕ) where
  pub name_told : {n : ℕ} → Some n ≡ name_length bytes → (is_name bytes ≡ true) × (n ≡ record_length bytes)
  unfolding name_length
  name_told e = told _ _ _ e

  pub name_not : None ≡ name_length bytes → is_name bytes ≡ false
  unfolding name_length
  name_not e = untold _ _ e

  pub data_told : {n : ℕ} → Some n ≡ data_length bytes → (is_data bytes ≡ true) × (n ≡ record_length bytes)
  unfolding data_length
  data_told e = told _ _ _ e

  pub data_not : None ≡ data_length bytes → is_data bytes ≡ false
  unfolding data_length
  data_not e = untold _ _ e

  pub pair_told : {n : ℕ} → Some n ≡ pair_length bytes → (is_pair bytes ≡ true) × (n ≡ pair_size bytes)
  unfolding pair_length
  pair_told e = told _ _ _ e

  pub pair_not : None ≡ pair_length bytes → is_pair bytes ≡ false
  unfolding pair_length
  pair_not e = untold _ _ e

-- the length of a pair, by its two records
module _ (bytes : List ℕ) where
  pub pair_unnamed : is_name bytes ≡ false → pair_length bytes ≡ None
  unfolding pair_length is_pair
  pair_unnamed e = rw e

  pub pair_bare : is_name bytes ≡ true → is_data (behind bytes) ≡ false → pair_length bytes ≡ None
  unfolding pair_length is_pair
  pair_bare e f = rw (e, f)

  pub pair_there : is_name bytes ≡ true → is_data (behind bytes) ≡ true → pair_length bytes ≡ Some (record_length bytes + record_length (behind bytes))
  unfolding pair_length is_pair pair_size
  pair_there e f = rw (e, f)

pub name_room : (bytes : List ℕ) → is_name bytes ≡ true → record_length bytes ≤ length bytes
unfolding is_name
name_room bytes e = whole_room bytes (and_left (is_whole bytes) _ e)

pub data_room : (bytes : List ℕ) → is_data bytes ≡ true → record_length bytes ≤ length bytes
unfolding is_data
data_room bytes e = whole_room bytes (and_left (is_whole bytes) _ e)

-- ---- what reading makes of a pair

both_fail : (a b c : Bool) → a && (b && true) ≡ false → a && (b && c) ≡ false
both_fail true true c e = absurd (true≢false e)
both_fail true false c e = refl
both_fail false b c e = refl

module _ (keys : List ListedKey) (bytes : List ℕ) where
  name_bad : 0 < length bytes → is_name bytes ≡ false → read_pairs bytes (whole keys) ≡ None
  unfolding is_name pair_step
  name_bad h e = go (is_whole bytes) refl e
    where
      go : (t : Bool) → is_whole bytes ≡ t → t && every (eqb (record_in bytes).tag 1 ∷ legal_name key_name_most (record_in bytes).value ∷ []) ≡ false
          → read_pairs bytes (whole keys) ≡ None
      go false w q = records_cut None pair_step pairs_done bytes (whole keys) h w
      go true w q =
          let fails = both_fail (eqb (field 0 1 bytes) 1) (legal_name key_name_most (value_in bytes)) (is_new (value_in bytes) (names_of keys) && (ltb (length keys) listed_most && true)) q in
          records_on None pair_step pairs_done bytes (whole keys) w ∙ rw fails

  name_good : is_name bytes ≡ true
      → read_pairs bytes (whole keys) ≡ (when is_new (value_in bytes) (names_of keys) && (ltb (length keys) listed_most && true) then read_pairs (behind bytes) (named keys (value_in bytes)) else None)
  unfolding is_name pair_step
  name_good e =
      let w = and_left (is_whole bytes) _ e in
      let q = and_right (is_whole bytes) _ e in
      let tag = and_left (eqb (field 0 1 bytes) 1) _ q in
      let legal = and_left (legal_name key_name_most (value_in bytes)) _ (and_right (eqb (field 0 1 bytes) 1) _ q) in
      records_on None pair_step pairs_done bytes (whole keys) w
      ∙ rw (tag, legal) (go (is_new (value_in bytes) (names_of keys) && (ltb (length keys) listed_most && true)))
    where
      go : (t : Bool)
          → after_step (when t then next (named keys (value_in bytes)) else stop None) (read_records None pair_step pairs_done (behind bytes))
          ≡ (when t then read_pairs (behind bytes) (named keys (value_in bytes)) else None)
      go true = refl
      go false = refl

  module _ (name : List ℕ) where
    data_bad : is_data bytes ≡ false → read_pairs bytes (named keys name) ≡ None
    unfolding is_data pair_step pairs_done
    data_bad e = go (is_whole bytes) refl e
      where
        empty : (x : List ℕ) → length x ≤ 0 → read_pairs x (named keys name) ≡ None
        empty [] h = records_empty None pair_step pairs_done (named keys name)
        empty (b ∷ x) h = absurd (omega arith)

        go : (t : Bool) → is_whole bytes ≡ t → t && every (data_tests (record_in bytes)) ≡ false → read_pairs bytes (named keys name) ≡ None
        go true w q = records_on None pair_step pairs_done bytes (named keys name) w ∙ rw q
        go false w q =
            elim (dec_lt 0 (length bytes)) [
              | yes l ↦ records_cut None pair_step pairs_done bytes (named keys name) l w
              | no l ↦ empty bytes (omega arith)
            ]

    data_good : is_data bytes ≡ true → read_pairs bytes (named keys name) ≡ read_pairs (behind bytes) (whole (keys ++ (listed name (value_in bytes) ∷ [])))
    unfolding is_data pair_step
    data_good e =
        records_on None pair_step pairs_done bytes (named keys name) (and_left (is_whole bytes) _ e) ∙ rw (and_right (is_whole bytes) _ e)

module _ (keys : List ListedKey) (bytes : List ℕ) where
  abbrev fresh : Bool
  fresh = is_new (value_in bytes) (names_of keys)

  pub pairs_none : 0 < length bytes → is_pair bytes ≡ false → read_pairs bytes (whole keys) ≡ None
  unfolding is_pair
  pairs_none h e = go (is_name bytes) refl e
    where
      by : (t : Bool) → read_pairs (behind bytes) (named keys (value_in bytes)) ≡ None → (when t then read_pairs (behind bytes) (named keys (value_in bytes)) else None) ≡ None
      by true q = q
      by false q = refl

      go : (t : Bool) → is_name bytes ≡ t → t && is_data (behind bytes) ≡ false → read_pairs bytes (whole keys) ≡ None
      go false n q = name_bad keys bytes h n
      go true n q = name_good keys bytes n ∙ by (fresh && (ltb (length keys) listed_most && true)) (data_bad keys (behind bytes) (value_in bytes) q)

  module _ (e : is_pair bytes ≡ true) where
    pub pairs_over : listed_most ≤ length keys → read_pairs bytes (whole keys) ≡ None
    pairs_over h = name_good keys bytes (pair_name bytes e) ∙ rw (le-ltb (length keys) listed_most h, and-false fresh)

    pub pairs_repeated : is_new (value_in bytes) (names_of keys) ≡ false → read_pairs bytes (whole keys) ≡ None
    pairs_repeated h = name_good keys bytes (pair_name bytes e) ∙ rw h

    pub pairs_on : length keys < listed_most → is_new (value_in bytes) (names_of keys) ≡ true
        → read_pairs bytes (whole keys) ≡ read_pairs (drop (pair_size bytes) bytes) (whole (keys ++ (key_in bytes ∷ [])))
    pairs_on h f =
        name_good keys bytes (pair_name bytes e)
        ∙ rw (f, lt-ltb (length keys) listed_most h)
        (data_good keys (behind bytes) (value_in bytes) (pair_data bytes e)
        ∙ ap (λ (l : List ℕ). read_pairs l (whole (keys ++ (key_in bytes ∷ []))))
        (drop-drop (record_length (behind bytes)) (record_length bytes) bytes ∙ ap (λ (n : ℕ). drop n bytes) (sym (pair_long bytes e))))

-- ---- bytes behind a pair do not matter to it

module _ (x rest : List ℕ) (room : record_length x ≤ length x) where
  name_append : is_name (x ++ rest) ≡ is_name x
  unfolding is_name
  name_append =
      ap₂ (λ (w : Bool) (r : Record). w && every (eqb r.tag 1 ∷ legal_name key_name_most r.value ∷ []))
      (whole_append x rest room ∙ sym (whole_fit x room)) (record_append x rest room)

  data_append : is_data (x ++ rest) ≡ is_data x
  unfolding is_data
  data_append =
      ap₂ (λ (w : Bool) (r : Record). w && every (data_tests r))
      (whole_append x rest room ∙ sym (whole_fit x room)) (record_append x rest room)

  behind_append : behind (x ++ rest) ≡ behind x ++ rest
  behind_append = ap (λ (k : ℕ). drop (3 + k) (x ++ rest)) (size_append x rest room) ∙ drop-append-le (record_length x) x rest room

-- the pair is x, with or without the rest
module _ (x rest : List ℕ) (e : is_pair (x ++ rest) ≡ true) (all : pair_size (x ++ rest) ≡ length x) where
  first_room : record_length x ≤ length x
  first_room = room_front x rest (omega (arith, all, pair_long (x ++ rest) e))

  second_room : record_length (behind x) ≤ length (behind x)
  second_room =
      let b = behind_append x rest first_room in
      let long = pair_long (x ++ rest) e in
      let same : record_length (behind (x ++ rest)) ≡ record_length (behind x ++ rest) = ap record_length b in
      let size : record_length (x ++ rest) ≡ record_length x = ap (λ (k : ℕ). 3 + k) (size_append x rest first_room) in
      room_front (behind x) rest (omega (arith, all, long, same, size, length-drop (record_length x) x))

  pub front_pair : is_pair x ≡ true
  unfolding is_pair
  front_pair =
      let b = behind_append x rest first_room in
      rw (
        sym (name_append x rest first_room) ∙ pair_name (x ++ rest) e,
        sym (data_append (behind x) rest second_room) ∙ ap is_data (sym b) ∙ pair_data (x ++ rest) e,
      )

  pub front_key : key_in x ≡ key_in (x ++ rest)
  front_key =
      let b = behind_append x rest first_room in
      let n : value_in x ≡ value_in (x ++ rest) = sym (ap (λ (r : Record). r.value) (record_append x rest first_room)) in
      let d : value_in (behind x) ≡ value_in (behind (x ++ rest))
      = sym (ap (λ (r : Record). r.value) (record_append (behind x) rest second_room)) ∙ ap value_in (sym b) in
      λ i. listed (n i) (d i)

  pub front_long : pair_size x ≡ length x
  front_long =
      let b = behind_append x rest first_room in
      let second : record_length (behind x) ≡ record_length (behind (x ++ rest))
      = ap (λ (k : ℕ). 3 + k) (sym (size_append (behind x) rest second_room)) ∙ ap record_length (sym b) in
      let first : record_length (x ++ rest) ≡ record_length x = ap (λ (k : ℕ). 3 + k) (size_append x rest first_room) in
      omega (arith, all, first, second, pair_long (x ++ rest) e, pair_long x front_pair)
