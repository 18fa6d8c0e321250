-- What a record says, and what is left of the registry, case by case.
use Rattle.std.proofs.Common.{Option, Some, None, Ok, Err}
use mathlib.Core.Path.{◌≡◌, refl, sym, ap, ap₂, ◌∙◌}
use mathlib.Core.Bool.{Bool, true, false, not}
use mathlib.Core.List.{List, []}
use Prim.Native.Nat.{ℕ, ◌+◌, ◌-◌, ◌*◌, ◌≤◌, ◌<◌, min}
use native.Mathlib.Omega.{arith}
use borrow.Author.Tests.{le-leb, lt-leb, le-ltb, lt-ltb, ltb-true, eqb-true, eqb-false, ne_eqb, eq-eqb}
use lib.ListN.{length, take, drop, get_or, length-take, length-drop, get_or-map}
use lib.Seq.{get_or-take, get_or-drop}
use lib.Dec.{eqb}
use Rattle.wire.specs.Choice.{when◌then◌else◌}
use Rattle.wire.specs.Lists.{every}
use Rattle.wire.specs.Numbers.{field}
use Rattle.wire.proofs.TestLaws.{and_left}
use Rattle.wire.proofs.ListLaws.{length_part}
use Rattle.wire.proofs.BlockLaws.{block_at_lem}
use Rattle.wire.proofs.BufferLaws.{lent}
use Rattle.records.specs.Records.{Record}
use Rattle.keys.specs.Key.{Key, legal_bits}
use Rattle.registry.specs.Names.{name_in}
use Rattle.registry.specs.Registry.{line_count, line_size, registry_size, lines_in, names_in, line_at, slots_of, changed}
use Rattle.registry.specs.WellFormed.{is_used}
use Rattle.registry.specs.code.Check.{key_from}
use Rattle.registry.specs.declared.Line.{Line}
use Rattle.judgement.specs.Status.{status_number}
use Rattle.judgement.specs.Operations.{Result, import_by, perform_destroy}
use Rattle.journal.specs.declared.Fault.TheVariants.{WrongLayout, NotAllowed}
use Rattle.journal.specs.Record.{Act, importing, destroying, line_in, name_at, key_in, import_tests, value_most, act_in}
use Rattle.journal.specs.Replay.{in_use, carried_out, replay, good, bad, judge_act}
use Rattle.journal.specs.code.Done.{done_on, Left, left_by}

-- ---- whether a line is in use, by its first byte

module _ (g : List ℕ) (size : length g ≡ registry_size) (line : Line) where
  pub unused_line_lem : line_count ≤ line.0 → in_use g line ≡ false
  unfolding in_use
  unused_line_lem h = rw (le-ltb line.0 line_count h)

  pub used_line : line.0 < line_count → in_use g line ≡ not (eqb (get_or g (line.0 * line_size) 0) 0)
  unfolding in_use
  used_line h =
      let l : List ℕ = line_at g line in
      let there : get_or (names_in g) line.0 [] ≡ name_in l = get_or-map name_in (lines_in g) line.0 [] ∙ ap name_in (block_at_lem line_size line_count g line.0 h) in
      let long : length l ≡ line_size = length_part g (line.0 * line_size) line_size (omega arith) in
      let first : get_or l 0 0 ≡ get_or g (line.0 * line_size) 0
      = get_or-take line_size (drop (line.0 * line_size) g) 0 0 (omega arith) ∙ get_or-drop (line.0 * line_size) g 0 0
      ∙ ap (λ (n : ℕ). get_or g n 0) (let z : line.0 * line_size + 0 ≡ line.0 * line_size = omega arith in z) in
      let m : length (name_in l) ≡ min (get_or l 0 0) (length l - 1) = length-take (get_or l 0 0) (drop 1 l) ∙ ap (min (get_or l 0 0)) (length-drop 1 l) in
      rw (lt-ltb _ _ h)
      (ap is_used there ∙ ap not (zero_length (get_or g (line.0 * line_size) 0) (length (name_in l)) (let z : length (name_in l) ≡ min (get_or g (line.0 * line_size) 0) (line_size - 1) = omega arith in z)))
    where
      zero_length : (b n : ℕ) → n ≡ min b (line_size - 1) → eqb n 0 ≡ eqb b 0
      zero_length b n e = go (eqb b 0) refl
        where
          go : (t : Bool) → eqb b 0 ≡ t → eqb n 0 ≡ t
          go true q = eq-eqb n 0 (omega (arith, eqb-true b 0 q))
          go false q = ne_eqb n 0 (λ z. eqb-false b 0 q (omega arith))

-- ---- what a value says

module _ (v : List ℕ) (few : length v ≤ value_most) where
  import_as : (t : Bool) → every (import_tests v) ≡ t
      → act_in (record { tag = 2; value = v }) ≡ (when t then Some (importing (line_in v) (key_in v)) else None)
  unfolding act_in
  import_as t e = rw (le-ltb value_most (length v) few) (ap (λ (b : Bool). when b then Some (importing (line_in v) (key_in v)) else None) e)

  pub import_short : length v < name_at → act_in (record { tag = 2; value = v }) ≡ None
  import_short h = import_as false (rw (lt-leb name_at (length v) h))

  module _ (h : name_at ≤ length v) where
    pub export_odd : 1 < get_or v 3 0 → act_in (record { tag = 2; value = v }) ≡ None
    export_odd x = import_as false (rw (le-leb name_at (length v) h, lt-leb (get_or v 3 0) 1 x))

    module _ (x : get_or v 3 0 ≤ 1) where
      pub verify_odd : 1 < get_or v 4 0 → act_in (record { tag = 2; value = v }) ≡ None
      verify_odd y = import_as false (rw (le-leb name_at (length v) h, le-leb (get_or v 3 0) 1 x, lt-leb (get_or v 4 0) 1 y))

      module _ (y : get_or v 4 0 ≤ 1) where
        pub name_cut : length v < name_at + get_or v 5 0 → act_in (record { tag = 2; value = v }) ≡ None
        name_cut n = import_as false (rw (le-leb name_at (length v) h, le-leb (get_or v 3 0) 1 x, le-leb (get_or v 4 0) 1 y, lt-leb (name_at + get_or v 5 0) (length v) n))

        pub import_there : name_at + get_or v 5 0 ≤ length v → act_in (record { tag = 2; value = v }) ≡ Some (importing (line_in v) (key_in v))
        import_there n = import_as true (rw (le-leb name_at (length v) h, le-leb (get_or v 3 0) 1 x, le-leb (get_or v 4 0) 1 y, le-leb (name_at + get_or v 5 0) (length v) n))

  pub destroy_short : length v ≡ 0 → act_in (record { tag = 3; value = v }) ≡ None
  unfolding act_in
  destroy_short h = rw (le-ltb value_most (length v) few, lt-leb 1 (length v) (omega arith))

  pub destroy_there : 0 < length v → act_in (record { tag = 3; value = v }) ≡ Some (destroying (line_in v) (drop 1 v))
  unfolding act_in
  destroy_there h = rw (le-ltb value_most (length v) few, le-leb 1 (length v) h)

  pub other_tag : (tag : ℕ) → (tag ≡ 2 → ⊥) → (tag ≡ 3 → ⊥) → act_in (record { tag = tag; value = v }) ≡ None
  unfolding act_in
  other_tag tag a b = rw (le-ltb value_most (length v) few, ne_eqb tag 2 a, ne_eqb tag 3 b)

-- ---- what is left of the registry

module _ (g : List ℕ) (r : Record) where
  abbrev left : Left
  left = left_by g (judge_act g (act_in r))

  pub left_layout : act_in r ≡ None → record { judged = Err WrongLayout; registry = g } ≡ left
  unfolding left_by judge_act
  left_layout e = ap (λ (o : Option Act). left_by g (judge_act g o)) (sym e)

  module _ (line : Line) (x : Result) (act : Act) (e : act_in r ≡ Some act) (same : replay g act ≡ carried_out g line x) where
    carried_left : (o : Option (List ℕ)) → carried_out g line x ≡ o
        → left ≡ left_by g (elim o [ None ↦ bad NotAllowed | Some after ↦ good after ])
    unfolding judge_act
    carried_left o w =
        ap (λ (y : Option Act). left_by g (judge_act g y)) e
        ∙ ap (λ (y : Option (List ℕ)). left_by g (elim y [ None ↦ bad NotAllowed | Some after ↦ good after ])) (same ∙ w)

    pub left_unused : in_use g line ≡ false → record { judged = Err NotAllowed; registry = g } ≡ left
    unfolding left_by carried_out
    left_unused u = sym (carried_left None (rw u))

    pub left_done : in_use g line ≡ true → (d : Left) → d ≡ done_on g line x → d ≡ left
    unfolding left_by carried_out done_on
    left_done u d q = q ∙ go (eqb (status_number x.status) 0) refl
      where
        go : (t : Bool) → eqb (status_number x.status) 0 ≡ t
            → record { judged = when t then Ok tt else Err NotAllowed; registry = when t then changed g line x.change else g } ≡ left
        go true s = sym (carried_left (Some (changed g line x.change)) (rw (u, s)))
        go false s = sym (carried_left None (rw (u, s)))

-- the key, where it lies in the value
pub key_there : (v : List ℕ) (n e bits : ℕ) → n ≡ get_or v 5 0 → e ≡ name_at + n → bits ≡ field 1 2 v
    → key_from (take (e - name_at) (drop name_at v)) (take (length v - e) (drop e v)) bits (eqb (get_or v 3 0) 1) (eqb (get_or v 4 0) 1) ≡ key_in v
key_there v n e bits a b k = λ i. record {
  name = ap (λ (k : ℕ). take k (drop name_at v)) (let z : e - name_at ≡ get_or v 5 0 = omega arith in z) i;
  bytes = (lent e v ∙ ap (λ (k : ℕ). drop k v) (let z : e ≡ name_at + get_or v 5 0 = omega arith in z)) i;
  bits = k i;
  export_allowed = eqb (get_or v 3 0) 1;
  verify_allowed = eqb (get_or v 4 0) 1;
}

pub in_use_below : (g : List ℕ) (line : Line) → in_use g line ≡ true → line.0 < line_count
unfolding in_use
in_use_below g line e = ltb-true _ _ (and_left _ _ e)

module _ (g v : List ℕ) where
  abbrev destroying_left : Left
  destroying_left = left g (record { tag = 3; value = v })

  abbrev importing_left : Left
  importing_left = left g (record { tag = 2; value = v })

  -- as the code finds a line
  module _ (n : ℕ) (at : n ≡ get_or v 0 0) where
    abbrev line : Line
    line = record { 0 = n }

    line_is : line ≡ line_in v
    line_is = λ i. record { 0 = at i }

    pub below : (t : Bool) → t ≡ in_use g line → t ≡ true → n < line_count
    below t e q = in_use_below g line (sym e ∙ q)

    module _ (t : Bool) (e : t ≡ in_use g line) where
      pub line_used : in_use g (line_in v) ≡ t
      line_used = ap (in_use g) (sym line_is) ∙ sym e

      -- a destroy's, of a line that is not in use, or done there
      module _ (few : length v ≤ value_most) (long : 0 < length v) where
        pub destroy_unused : t ≡ false → record { judged = Err NotAllowed; registry = g } ≡ destroying_left
        destroy_unused q =
            left_unused g _ (line_in v) (perform_destroy (drop 1 v) (slots_of g (line_in v)) []) _ (destroy_there v few long) (unfold replay in refl) (line_used ∙ q)

        pub destroy_left : t ≡ true → (d : Left) → d ≡ done_on g line (perform_destroy (take (length v - 1) (drop 1 v)) (slots_of g line) []) → d ≡ destroying_left
        destroy_left q d w =
            left_done g _ (line_in v) (perform_destroy (drop 1 v) (slots_of g (line_in v)) []) _ (destroy_there v few long) (unfold replay in refl) (line_used ∙ q) d
            (w ∙ ap₂ (λ (l : Line) (name : List ℕ). done_on g l (perform_destroy name (slots_of g l) [])) line_is (lent 1 v))

      -- and an import's
      module _ (there : act_in (record { tag = 2; value = v }) ≡ Some (importing (line_in v) (key_in v))) where
        pub import_unused : t ≡ false → record { judged = Err NotAllowed; registry = g } ≡ importing_left
        import_unused q =
            left_unused g _ (line_in v) (import_by legal_bits (key_in v) (slots_of g (line_in v)) []) _ there (unfold replay in refl) (line_used ∙ q)

        pub import_left : t ≡ true → (key : Key) → key ≡ key_in v → (d : Left) → d ≡ done_on g line (import_by legal_bits key (slots_of g line) []) → d ≡ importing_left
        import_left q key k d w =
            left_done g _ (line_in v) (import_by legal_bits (key_in v) (slots_of g (line_in v)) []) _ there (unfold replay in refl) (line_used ∙ q) d
            (w ∙ ap₂ (λ (l : Line) (k : Key). done_on g l (import_by legal_bits k (slots_of g l) [])) line_is k)
