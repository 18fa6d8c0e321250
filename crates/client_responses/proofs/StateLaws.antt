-- Laws of a reader's state in memory: stored it is well formed and loaded as it was, and well-formed memory is stored so.
use mathlib.Core.Path.{◌≡◌, refl, sym, ap, ap₂, ◌∙◌}
use Prim.Native.Nat.{ℕ, suc, ◌+◌, ◌-◌, ◌≤◌, ◌<◌}
use mathlib.Core.Bool.{Bool, true, false, ◌&&◌}
use mathlib.Core.List.{List, [], ◌∷◌, ◌++◌, append_assoc}
use native.Mathlib.Omega.{arith}
use borrow.Author.Tests.{eq-eqb, ne_eqb, eqb-true, leb-true, le-leb, lt-leb}
use borrow.Rule.Slice.PartMut.{put_mid}
use lib.ListN.{length, take, drop, set, replicate, length-append, length-drop, take-append-drop}
use lib.Dec.{eqb, leb}
use lib.Seq.{drop-drop, drop-append-add, drop-append_seam, take-append_seam, length-take-le}
use Rattle.wire.specs.Lists.{all, one_of, is_zero, padded, over}
use Rattle.wire.specs.Numbers.{little_endian_of, field}
use Rattle.wire.proofs.TestLaws.{every_at}
use Rattle.wire.proofs.ListLaws.{length_padded, all_zeros, all_take, all_drop, zeros_back, drop_zeros}
use Rattle.wire.proofs.NumberLaws.{is_byte, length_number, field_back, bytes_back}
use Rattle.wire.proofs.BufferLaws.{onward}
use Rattle.messages.specs.Opcodes.{core_opcodes, keystore_opcodes}
use Rattle.messages.specs.Formats.{content_types}
use Rattle.client_responses.specs.Reading.{Asked}
use Rattle.client_responses.specs.State.{response_most, session_at, accept_at, count_at, bytes_at, state_size, state_bytes, asked_in, bytes_in, well_formed_state}

abbrev pub is_listed : (opcode : ℕ) → Bool
is_listed opcode = one_of (core_opcodes ++ keystore_opcodes) opcode

abbrev pub is_type : (accept_type : ℕ) → Bool
is_type accept_type = one_of content_types accept_type

-- a request whose response can be read
abbrev pub Listed : Asked → Type 0
Listed asked = (is_listed asked.opcode ≡ true) × (is_type asked.accept_type ≡ true)

-- ---- the parts of a stored state

module _ (asked : Asked) (bytes : List ℕ) where
  abbrev stored : List ℕ
  stored = state_bytes asked bytes

  opcode_there : field 0 2 stored ≡ asked.opcode
  unfolding state_bytes
  opcode_there = field_back 0 1 asked.opcode stored _ refl

  session_there : field session_at 8 stored ≡ asked.session
  unfolding state_bytes little_endian_of
  session_there = field_back session_at 7 asked.session stored _ refl

  accept_there : field accept_at 1 stored ≡ asked.accept_type
  unfolding state_bytes little_endian_of
  accept_there = field_back accept_at 0 asked.accept_type stored _ refl

  pub count_there : field count_at 2 stored ≡ length bytes
  unfolding state_bytes little_endian_of
  count_there = field_back count_at 1 (length bytes) stored _ refl

  bytes_there : drop bytes_at stored ≡ padded response_most bytes
  unfolding state_bytes little_endian_of
  bytes_there = refl

  pub asked_back : asked_in stored ≡ asked
  unfolding asked_in
  asked_back = λ i. record { opcode = opcode_there i; session = session_there i; accept_type = accept_there i }

  pub held_back : bytes_in stored ≡ bytes
  unfolding bytes_in
  held_back = ap₂ take count_there bytes_there ∙ take-append_seam bytes (replicate (response_most - length bytes) 0)

  module _ (few : length bytes ≤ response_most) where
    pub size_there : length stored ≡ state_size
    unfolding state_bytes little_endian_of
    size_there = let p : length (padded response_most bytes) ≡ response_most = length_padded response_most bytes few in omega arith

    zeros_there : all is_zero (drop (bytes_at + field count_at 2 stored) stored) ≡ true
    zeros_there =
        ap (λ (n : ℕ). all is_zero (drop (bytes_at + n) stored)) count_there
        ∙ ap (all is_zero)
        (sym (drop-drop (length bytes) bytes_at stored) ∙ ap (drop (length bytes)) bytes_there ∙ drop-append_seam bytes (replicate (response_most - length bytes) 0))
        ∙ all_zeros (response_most - length bytes)

    pub well_there : Listed asked → well_formed_state stored ≡ true
    unfolding well_formed_state
    well_there (listed, typed) =
        ap₂ ◌&&◌ (eq-eqb _ _ size_there)
        (ap₂ ◌&&◌ (ap is_listed opcode_there ∙ listed)
        (ap₂ ◌&&◌ (ap is_type accept_there ∙ typed)
        (ap₂ ◌&&◌ (le-leb _ _ (let e = count_there in (let x : field count_at 2 stored ≤ response_most = omega arith in x)))
        (ap₂ ◌&&◌ zeros_there refl))))

-- ---- memory, test by test

module _ (m : List ℕ) where
  abbrev count : ℕ
  count = field count_at 2 m

  pub other_size : (length m ≡ state_size → ⊥) → well_formed_state m ≡ false
  unfolding well_formed_state
  other_size h = rw (ne_eqb (length m) state_size h, well_formed_state)

  module _ (size : length m ≡ state_size) where
    pub unlisted : is_listed (field 0 2 m) ≡ false → well_formed_state m ≡ false
    unfolding well_formed_state
    unlisted h = rw (eq-eqb (length m) state_size size, h, well_formed_state)

    module _ (listed : is_listed (field 0 2 m) ≡ true) where
      pub other_type : is_type (field accept_at 1 m) ≡ false → well_formed_state m ≡ false
      unfolding well_formed_state
      other_type h = rw (eq-eqb (length m) state_size size, listed, h, well_formed_state)

      module _ (typed : is_type (field accept_at 1 m) ≡ true) where
        pub too_many : response_most < count → well_formed_state m ≡ false
        unfolding well_formed_state
        too_many h = rw (eq-eqb (length m) state_size size, listed, typed, lt-leb count response_most h, well_formed_state)

        pub zeros_decide : count ≤ response_most → well_formed_state m ≡ all is_zero (drop (bytes_at + count) m)
        unfolding well_formed_state
        zeros_decide h = rw (eq-eqb (length m) state_size size, listed, typed, le-leb count response_most h, well_formed_state) (go (all is_zero (drop (bytes_at + count) m)))
          where
            go : (t : Bool) → t && true ≡ t
            go true = refl
            go false = refl

-- ---- well-formed memory

pub record Well (m : List ℕ) : Type 0 where
  pub size : length m ≡ state_size
  pub listed : Listed (asked_in m)
  pub few : field count_at 2 m ≤ response_most
  pub long : length (bytes_in m) ≡ field count_at 2 m
  pub zeros : all is_zero (drop (bytes_at + field count_at 2 m) m) ≡ true

abbrev tests : List ℕ → List Bool
tests m =
    eqb (length m) state_size
    ∷ is_listed (field 0 2 m)
    ∷ is_type (field accept_at 1 m)
    ∷ leb (field count_at 2 m) response_most
    ∷ all is_zero (drop (bytes_at + field count_at 2 m) m)
    ∷ []

pub well : (m : List ℕ) → well_formed_state m ≡ true → Well m
unfolding well_formed_state asked_in bytes_in
well m w =
    let size : length m ≡ state_size = eqb-true (length m) state_size (every_at (tests m) 0 w) in
    let few : field count_at 2 m ≤ response_most = leb-true (field count_at 2 m) response_most (every_at (tests m) 3 w) in
    record {
      size = size;
      listed = (every_at (tests m) 1 w, every_at (tests m) 2 w);
      few = few;
      long = length-take-le (field count_at 2 m) (drop bytes_at m) (let d = length-drop bytes_at m in omega arith);
      zeros = every_at (tests m) 4 w;
    }

-- a number of bytes, and what stands behind it
number_next : (at more : ℕ) (m : List ℕ) → all is_byte m ≡ true → at + suc more ≤ length m
    → little_endian_of (suc more) (field at (suc more) m) ++ drop (at + suc more) m ≡ drop at m
unfolding field
number_next at more m bytes h =
    let part : List ℕ = take (suc more) (drop at m) in
    let long : length part ≡ suc more = length-take-le (suc more) (drop at m) (let d = length-drop at m in omega arith) in
    let back = bytes_back part (all_take is_byte (suc more) (drop at m) (all_drop is_byte at m bytes)) (omega arith) in
    ap₂ ◌++◌ (ap (λ (n : ℕ). little_endian_of n (field at (suc more) m)) (sym long) ∙ back) (sym (drop-drop (suc more) at m))
    ∙ take-append-drop (suc more) (drop at m)

module _ (m : List ℕ) (w : Well m) where
  held_next : padded response_most (bytes_in m) ≡ drop bytes_at m
  unfolding bytes_in
  held_next =
      let k : ℕ = field count_at 2 m in
      let size = w.size in
      let long = w.long in
      let d = length-drop bytes_at m in
      let d' = length-drop k (drop bytes_at m) in
      let few = w.few in
      let left : response_most - length (take k (drop bytes_at m)) ≡ length (drop k (drop bytes_at m)) = omega arith in
      rw (left, zeros_back (drop k (drop bytes_at m)) (ap (all is_zero) (drop-drop k bytes_at m) ∙ w.zeros)) (take-append-drop k (drop bytes_at m))

  -- WELL-FORMED MEMORY is the bytes of what it holds
  pub memory_is : all is_byte m ≡ true → m ≡ state_bytes (asked_in m) (bytes_in m)
  unfolding state_bytes asked_in
  memory_is bytes =
      let size = w.size in
      sym (
      ap (λ (l : List ℕ). little_endian_of 2 (field 0 2 m) ++ (little_endian_of 8 (field session_at 8 m) ++ (little_endian_of 1 (field accept_at 1 m) ++ l)))
      (ap₂ (λ (n : ℕ) (l : List ℕ). little_endian_of 2 n ++ l) w.long held_next ∙ number_next count_at 1 m bytes (omega arith))
      ∙ ap (λ (l : List ℕ). little_endian_of 2 (field 0 2 m) ++ (little_endian_of 8 (field session_at 8 m) ++ l)) (number_next accept_at 0 m bytes (omega arith))
      ∙ ap (λ (l : List ℕ). little_endian_of 2 (field 0 2 m) ++ l) (number_next session_at 7 m bytes (omega arith))
      ∙ number_next 0 1 m bytes (omega arith))

-- ---- a state begun

begun : (asked : Asked) → set (over (little_endian_of 2 asked.opcode ++ little_endian_of 8 asked.session) (replicate state_size 0)) accept_at asked.accept_type ≡ state_bytes asked []
unfolding state_bytes little_endian_of
begun asked = refl

pub begun_put : (asked : Asked) (first second zeros l part : List ℕ) → first ≡ little_endian_of 2 asked.opcode → second ≡ little_endian_of 8 asked.session
    → zeros ≡ replicate state_size 0 → l ≡ over first zeros → part ≡ over second (take (length l - session_at) (drop session_at l))
    → set (put_mid session_at (length l - session_at) l part) accept_at asked.accept_type ≡ state_bytes asked []
begun_put asked first second zeros l part f s z e p =
    ap (λ (x : List ℕ). set x accept_at asked.accept_type)
    (onward first second zeros l part session_at (sym (ap length f ∙ length_number 2 asked.opcode)) e p
    ∙ ap₂ (λ (x y : List ℕ). over (x ++ y) zeros) f s
    ∙ ap (over (little_endian_of 2 asked.opcode ++ little_endian_of 8 asked.session)) z)
    ∙ begun asked

-- ---- bytes put behind those that are held

module _ (asked : Asked) where
  abbrev numbers : List ℕ
  numbers = little_endian_of 2 asked.opcode ++ (little_endian_of 8 asked.session ++ little_endian_of 1 asked.accept_type)

  abbrev laid : (n : ℕ) (bytes : List ℕ) → List ℕ
  laid n bytes = (numbers ++ little_endian_of 2 n) ++ padded response_most bytes

  pub count_put : (n : ℕ) (held memory part : List ℕ) → memory ≡ state_bytes asked held
      → part ≡ over (little_endian_of 2 n) (take (length memory - count_at) (drop count_at memory)) → put_mid count_at (length memory - count_at) memory part ≡ laid n held
  unfolding state_bytes little_endian_of
  count_put n held memory part e p =
      onward numbers (little_endian_of 2 n) (state_bytes asked held) memory part count_at refl e p

  module _ (n : ℕ) (held bytes : List ℕ) (fits : length held + length bytes ≤ response_most) where
    front : List ℕ
    front = (numbers ++ little_endian_of 2 n) ++ held

    zeros : List ℕ
    zeros = replicate (response_most - length held) 0

    front_size : length front ≡ bytes_at + length held
    unfolding front little_endian_of
    front_size = omega arith

    front_laid : laid n held ≡ front ++ zeros
    unfolding front zeros
    front_laid = sym (append_assoc (numbers ++ little_endian_of 2 n) held zeros)

    -- so many zeros stay behind the bytes
    zeros_left : drop (length (front ++ bytes)) (front ++ zeros) ≡ replicate (response_most - length (held ++ bytes)) 0
    unfolding zeros
    zeros_left =
        let k : response_most - length held - length bytes ≡ response_most - length (held ++ bytes) = omega (arith, length-append held bytes) in
        rw (length-append front bytes) (drop-append-add front zeros (length bytes) ∙ drop_zeros (length bytes) (response_most - length held) ∙ rw k)

    regrouped : (rest : List ℕ) → front ++ bytes ++ rest ≡ (numbers ++ little_endian_of 2 n) ++ (held ++ bytes ++ rest)
    unfolding front
    regrouped rest =
        append_assoc ((numbers ++ little_endian_of 2 n) ++ held) bytes rest ∙ append_assoc (numbers ++ little_endian_of 2 n) held (bytes ++ rest)
        ∙ ap (λ (l : List ℕ). (numbers ++ little_endian_of 2 n) ++ l) (sym (append_assoc held bytes rest))

    bytes_over : over (front ++ bytes) (laid n held) ≡ laid n (held ++ bytes)
    bytes_over = rw (front_laid, zeros_left) (regrouped (replicate (response_most - length (held ++ bytes)) 0))

    laid_state : n ≡ length (held ++ bytes) → laid n (held ++ bytes) ≡ state_bytes asked (held ++ bytes)
    unfolding state_bytes little_endian_of
    laid_state e = rw e

    pub bytes_put : (memory part : List ℕ) (at : ℕ) → memory ≡ laid n held → at ≡ bytes_at + length held → n ≡ length (held ++ bytes)
        → part ≡ over bytes (take (length memory - at) (drop at memory)) → put_mid at (length memory - at) memory part ≡ state_bytes asked (held ++ bytes)
    bytes_put memory part at e a l p =
        let whole : memory ≡ over front (laid n held)
        = e ∙ front_laid ∙ sym (ap (λ (l : List ℕ). front ++ l) (ap (drop (length front)) front_laid ∙ drop-append_seam front zeros)) in
        onward front bytes (laid n held) memory part at (a ∙ sym front_size) whole p ∙ bytes_over ∙ laid_state l
