-- Memory of the right size is a well-formed connection exactly where the tests of its kind pass.
use mathlib.Core.Path.{◌≡◌, refl, sym, ap, ap₂, subst, ◌∙◌}
use Prim.Native.Nat.{ℕ, ◌+◌, ◌-◌, ◌≤◌, ◌<◌}
use mathlib.Core.Bool.{Bool, true, false, ◌&&◌}
use mathlib.Core.List.{List, [], ◌∷◌, ◌++◌}
use native.Mathlib.Omega.{arith}
use borrow.Author.Tests.{leb-true, le-leb, eqb-true, eq-eqb, ne_eqb}
use lib.ListN.{length, take, drop, get_or, replicate, length-take, length-drop, take-append-drop}
use lib.Seq.{length-take-le, drop-cons, drop-drop, drop-append_seam}
use lib.Dec.{leb}
use Rattle.wire.specs.Lists.{all, is_zero, padded}
use Rattle.wire.specs.Numbers.{little_endian_of, field}
use Rattle.wire.specs.Request.{content_length, auth_length, header_length}
use Rattle.wire.proofs.TestLaws.{and_left, and_right, both}
use Rattle.wire.proofs.ListLaws.{all_take, all_drop, all_zeros, same_refl, zeros_back}
use Rattle.wire.proofs.NumberLaws.{is_byte, bytes_back}
use Rattle.stream.specs.Frame.{legal_start, oversized}
use Rattle.stream.specs.Rules.{Connection, opened, skipping, closed}
use Rattle.stream.specs.Call.{is_beginning, well_formed}
use Rattle.stream.proofs.FrameLaws.{legal_size, Told, told, header_told}
use Rattle.stream.proofs.ChunkLaws.{well_skipping}
use Rattle.connection.specs.Connection.{held_most, connection_size, laid_out, connection_bytes, connection_of, well_formed_connection}
use Rattle.connection.proofs.ConnectionLaws.{number_there, bytes_there, blank, legal_most, memory_good, store_load}

-- ---- memory as it is laid out

module _ (memory : List ℕ) (size : length memory ≡ connection_size) where
  kind_first : memory ≡ get_or memory 0 0 ∷ drop 1 memory
  kind_first = drop-cons memory 0 0 (let x : 0 < length memory = omega arith in x)

  number_next : all is_byte memory ≡ true → little_endian_of 8 (field 1 8 memory) ++ drop 9 memory ≡ drop 1 memory
  unfolding field
  number_next bytes =
      let room : 8 ≤ length (drop 1 memory) = omega (arith, length-drop 1 memory) in
      let many : length (take 8 (drop 1 memory)) ≡ 8 = length-take-le 8 (drop 1 memory) room in
      let back = bytes_back (take 8 (drop 1 memory)) (all_take is_byte 8 (drop 1 memory) (all_drop is_byte 1 memory bytes)) (omega arith) in
      ap₂ ◌++◌ (ap (λ (n : ℕ). little_endian_of n (field 1 8 memory)) (sym many) ∙ back) (sym (drop-drop 8 1 memory))
      ∙ take-append-drop 8 (drop 1 memory)

  held_size : length (drop 9 memory) ≡ held_most
  held_size = length-drop 9 memory ∙ (let x : length memory - 9 ≡ held_most = omega arith in x)

  held_next : (k : ℕ) → k ≤ held_most → all is_zero (drop (9 + k) memory) ≡ true → padded held_most (take k (drop 9 memory)) ≡ drop 9 memory
  held_next k h z =
      let few : length (take k (drop 9 memory)) ≡ k = length-take-le k (drop 9 memory) (omega (arith, held_size)) in
      let left : held_most - length (take k (drop 9 memory)) ≡ length (drop k (drop 9 memory)) = omega (arith, length-drop k (drop 9 memory), held_size) in
      rw (left, zeros_back (drop k (drop 9 memory)) (ap (all is_zero) (drop-drop k 9 memory) ∙ z)) (take-append-drop k (drop 9 memory))

  -- k bytes are held, and those behind them are zero
  laid : all is_byte memory ≡ true → (k : ℕ) → k ≤ held_most → all is_zero (drop (9 + k) memory) ≡ true
      → laid_out (get_or memory 0 0) (field 1 8 memory) (take k (drop 9 memory)) ≡ memory
  laid bytes k h z =
      ap (λ (l : List ℕ). get_or memory 0 0 ∷ (little_endian_of 8 (field 1 8 memory) ++ l)) (held_next k h z)
      ∙ ap (λ (l : List ℕ). get_or memory 0 0 ∷ l) (number_next bytes)
      ∙ sym kind_first

  -- the bytes of the well-formed connection that it is read as
  good : (c : Connection) → connection_of memory ≡ c → well_formed c ≡ true → connection_bytes c ≡ memory → well_formed_connection memory ≡ true
  unfolding well_formed_connection
  good c e w s = rw (size, eq-eqb connection_size connection_size refl, e, w, s) (same_refl memory)

-- ---- what memory is read as, by its kind

module _ (memory : List ℕ) where
  pub of_open : get_or memory 0 0 ≡ 0 → connection_of memory ≡ opened (take (field 1 8 memory) (drop 9 memory))
  unfolding connection_of
  of_open e = rw (e, connection_of)

  pub of_skipping : get_or memory 0 0 ≡ 1 → connection_of memory ≡ skipping (take (header_length (drop 9 memory)) (drop 9 memory)) (field 1 8 memory)
  unfolding connection_of
  of_skipping e = rw (e, connection_of)

  pub of_closed : (get_or memory 0 0 ≡ 0 → ⊥) → (get_or memory 0 0 ≡ 1 → ⊥) → connection_of memory ≡ closed
  unfolding connection_of
  of_closed n₀ n₁ = rw (ne_eqb _ _ n₀, ne_eqb _ _ n₁, connection_of)

-- memory that is laid out so: the bytes behind those that are held are zero
zeros_there : (kind n : ℕ) (held memory : List ℕ) → laid_out kind n held ≡ memory → all is_zero (drop (9 + length held) memory) ≡ true
zeros_there kind n held memory s =
    ap (all is_zero)
    (sym (drop-drop (length held) 9 memory)
    ∙ ap (drop (length held)) (ap (drop 9) (sym s) ∙ bytes_there kind n held)
    ∙ drop-append_seam held (replicate (held_most - length held) 0))
    ∙ all_zeros (held_most - length held)

-- ---- well-formed memory, by its kind

module _ (memory : List ℕ) (g : well_formed_connection memory ≡ true) where
  pub well_size : length memory ≡ connection_size
  unfolding well_formed_connection
  well_size = eqb-true _ _ (and_left _ _ g)

  well_bytes : (c : Connection) → connection_of memory ≡ c → connection_bytes c ≡ memory
  well_bytes c e = ap connection_bytes (sym e) ∙ store_load memory g

  well_good : (c : Connection) → connection_of memory ≡ c → well_formed c ≡ true
  well_good c e = ap well_formed (sym e) ∙ memory_good memory g

  -- the number of an open connection says how many bytes it holds
  pub open_number : get_or memory 0 0 ≡ 0 → field 1 8 memory ≡ length (take (field 1 8 memory) (drop 9 memory))
  unfolding connection_bytes
  open_number k =
      ap (field 1 8) (sym (well_bytes _ (of_open memory k)))
      ∙ number_there 0 (length (take (field 1 8 memory) (drop 9 memory))) (take (field 1 8 memory) (drop 9 memory))

-- ---- THE TESTS OF AN OPEN CONNECTION

module _ (memory : List ℕ) (size : length memory ≡ connection_size) (bytes : all is_byte memory ≡ true) (kind : get_or memory 0 0 ≡ 0) where
  number : ℕ
  number = field 1 8 memory

  held : List ℕ
  held = take number (drop 9 memory)

  abbrev open_tests : Bool
  open_tests = leb number held_most && (all is_zero (drop (9 + number) memory) && is_beginning held)

  open_pass : well_formed_connection memory ≡ true → open_tests ≡ true
  unfolding number held connection_bytes well_formed
  open_pass g =
      let exact : number ≡ length held = open_number memory g kind in
      let few : number ≤ held_most = omega (arith, length-take number (drop 9 memory), held_size memory size) in
      let zeros : all is_zero (drop (9 + number) memory) ≡ true
      = ap (λ (n : ℕ). all is_zero (drop (9 + n) memory)) exact ∙ zeros_there 0 (length held) held memory (well_bytes memory g _ (of_open memory kind)) in
      ap₂ ◌&&◌ (le-leb _ _ few) (ap₂ ◌&&◌ zeros (well_good memory g _ (of_open memory kind)))

  open_good : open_tests ≡ true → well_formed_connection memory ≡ true
  unfolding number held connection_bytes well_formed
  open_good t =
      let few : number ≤ held_most = leb-true _ _ (and_left _ _ t) in
      let rest = and_right (leb number held_most) _ t in
      let exact : length held ≡ number = length-take-le number (drop 9 memory) (omega (arith, held_size memory size)) in
      let same : laid_out 0 (length held) held ≡ memory
      = ap₂ (λ (k n : ℕ). laid_out k n held) (sym kind) exact ∙ laid memory size bytes number few (and_left _ _ rest) in
      good memory size (opened held) (of_open memory kind) (and_right (all is_zero (drop (9 + number) memory)) _ rest) same

  pub open_tests_lem : well_formed_connection memory
      ≡ leb (field 1 8 memory) held_most && (all is_zero (drop (9 + field 1 8 memory) memory) && is_beginning (take (field 1 8 memory) (drop 9 memory)))
  unfolding number held
  open_tests_lem = both _ _ open_pass open_good

-- ---- THE TESTS OF A SKIPPED REQUEST

module _ (memory : List ℕ) (size : length memory ≡ connection_size) (bytes : all is_byte memory ≡ true) (kind : get_or memory 0 0 ≡ 1) where
  to_go : ℕ
  to_go = field 1 8 memory

  whole : List ℕ
  whole = drop 9 memory

  header : List ℕ
  header = take (header_length whole) whole

  abbrev skipping_tests : Bool
  skipping_tests =
      legal_start whole
      && (oversized whole
      && (leb 1 to_go && (leb to_go (content_length whole + auth_length whole) && all is_zero (drop (9 + header_length whole) memory))))

  skipping_pass : well_formed_connection memory ≡ true → skipping_tests ≡ true
  unfolding to_go whole header connection_bytes well_formed
  skipping_pass g =
      let w : well_formed (skipping header to_go) ≡ true = well_good memory g _ (of_skipping memory kind) in
      let same : laid_out 1 to_go header ≡ memory = well_bytes memory g _ (of_skipping memory kind) in
      let f = well_skipping header to_go w in
      let e : whole ≡ padded held_most header = ap (drop 9) (sym same) ∙ bytes_there 1 to_go header in
      let k : Told whole header = subst (λ (x : List ℕ). Told x header) (sym e) (told header (replicate (held_most - length header) 0) f.many) in
      let zeros : all is_zero (drop (9 + header_length whole) memory) ≡ true
      = ap (λ (n : ℕ). all is_zero (drop (9 + n) memory)) (k.long ∙ sym f.exact) ∙ zeros_there 1 to_go header memory same in
      let most : leb to_go (content_length whole + auth_length whole) ≡ true
      = ap (leb to_go) k.more ∙ le-leb _ _ f.most in
      ap₂ ◌&&◌ (k.legal ∙ f.legal)
      (ap₂ ◌&&◌ (k.large ∙ f.large) (ap₂ ◌&&◌ (le-leb _ _ f.least) (ap₂ ◌&&◌ most zeros)))

  skipping_good : skipping_tests ≡ true → well_formed_connection memory ≡ true
  unfolding to_go whole header connection_bytes well_formed
  skipping_good t =
      let legal : legal_start whole ≡ true = and_left _ _ t in
      let t₁ = and_right (legal_start whole) _ t in
      let t₂ = and_right (oversized whole) _ t₁ in
      let t₃ = and_right (leb 1 to_go) _ t₂ in
      let zeros = and_right (leb to_go (content_length whole + auth_length whole)) _ t₃ in
      let few : header_length whole ≤ held_most = omega (arith, legal_most whole legal) in
      let fits : header_length whole ≤ length whole = omega (arith, held_size memory size) in
      let long : length header ≡ header_length whole = length-take-le (header_length whole) whole fits in
      let k : Told whole header = header_told whole legal fits in
      let legal' : legal_start header ≡ true = sym k.legal ∙ legal in
      let large' : oversized header ≡ true = sym k.large ∙ and_left _ _ t₁ in
      let exact' : length header ≡ header_length header = long ∙ k.long in
      let most' : leb to_go (content_length header + auth_length header) ≡ true
      = ap (leb to_go) (sym k.more) ∙ and_left _ _ t₃ in
      let six : leb 6 (length header) ≡ true = le-leb 6 (length header) (omega (arith, legal_size whole legal)) in
      let w : well_formed (skipping header to_go) ≡ true
      = ap₂ ◌&&◌ (ap₂ ◌&&◌ (ap₂ ◌&&◌ (ap₂ ◌&&◌ (ap₂ ◌&&◌ six legal') (eq-eqb _ _ exact')) large') (and_left _ _ t₂)) most' in
      let same : laid_out 1 to_go header ≡ memory
      = ap (λ (n : ℕ). laid_out n to_go header) (sym kind) ∙ laid memory size bytes (header_length whole) few zeros in
      good memory size (skipping header to_go) (of_skipping memory kind) w same

  pub skipping_tests_lem : well_formed_connection memory
      ≡ legal_start (drop 9 memory)
      && (oversized (drop 9 memory)
      && (leb 1 (field 1 8 memory)
      && (leb (field 1 8 memory) (content_length (drop 9 memory) + auth_length (drop 9 memory))
      && all is_zero (drop (9 + header_length (drop 9 memory)) memory))))
  unfolding to_go whole
  skipping_tests_lem = both _ _ skipping_pass skipping_good

-- ---- THE TEST OF A CLOSED CONNECTION, AND MEMORY THAT IS NONE

module _ (memory : List ℕ) where
  abbrev Other : Type 0
  Other = (get_or memory 0 0 ≡ 0 → ⊥) × (get_or memory 0 0 ≡ 1 → ⊥)

  closed_bytes : Other → well_formed_connection memory ≡ true → 2 ∷ replicate (8 + held_most) 0 ≡ memory
  unfolding connection_bytes
  closed_bytes o g = sym (blank 2) ∙ well_bytes memory g closed (of_closed memory o.0 o.1)

  pub closed_tests : length memory ≡ connection_size → get_or memory 0 0 ≡ 2 → well_formed_connection memory ≡ all is_zero (drop 1 memory)
  unfolding connection_bytes well_formed
  closed_tests size kind =
      let o : Other = ((λ e. absurd (omega arith)), (λ e. absurd (omega arith))) in
      both _ _
      (λ g. ap (λ (l : List ℕ). all is_zero (drop 1 l)) (sym (closed_bytes o g)) ∙ all_zeros (8 + held_most))
      (λ z.
      let n : 8 + held_most ≡ length (drop 1 memory) = omega (arith, length-drop 1 memory) in
      let zeros : replicate (8 + held_most) 0 ≡ drop 1 memory = ap (λ (n : ℕ). replicate n 0) n ∙ zeros_back (drop 1 memory) z in
      let same : laid_out 2 0 [] ≡ memory = blank 2 ∙ ap₂ ◌∷◌ (sym kind) zeros ∙ sym (kind_first memory size) in
      good memory size closed (of_closed memory o.0 o.1) refl same)

  pub other_kind : (get_or memory 0 0 ≡ 0 → ⊥) → (get_or memory 0 0 ≡ 1 → ⊥) → (get_or memory 0 0 ≡ 2 → ⊥) → well_formed_connection memory ≡ false
  other_kind n₀ n₁ n₂ = go (well_formed_connection memory) refl
    where
      go : (t : Bool) → well_formed_connection memory ≡ t → t ≡ false
      go true g = absurd (n₂ (ap (λ (l : List ℕ). get_or l 0 0) (sym (closed_bytes (n₀, n₁) g))))
      go false g = refl

  pub other_size : (length memory ≡ connection_size → ⊥) → well_formed_connection memory ≡ false
  unfolding well_formed_connection
  other_size n = rw (ne_eqb (length memory) connection_size n)
