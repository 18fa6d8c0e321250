-- Laws of a packed list: what a loop over its varints comes to.
use Rattle.std.proofs.Common.{Option, Some, None, is_some}
use Prim.Native.Nat.{ℕ, zero, suc, ◌+◌, ◌-◌, ◌%◌, ◌^◌, ◌≤◌, ◌<◌}
use native.Mathlib.Omega.{arith}
use native.Mathlib.Numerals.{add-one}
use mathlib.Core.Path.{◌≡◌, refl, sym, ap, ap₂, ◌∙◌}
use mathlib.Core.Bool.{Bool, true, false, false≢true}
use mathlib.Core.List.{List, [], ◌∷◌, ◌++◌, append_assoc, append-nil}
use lib.ListN.{length, take, drop, set, length-append, length-drop}
use lib.Seq.{append_snoc, take_all, take-append_seam, drop-cons, set-append_seam}
use lib.Dec.{ltb}
use borrow.Author.Tests.{ltb-true, ltb-false}
use Rattle.wire.specs.Choice.{when◌then◌else◌}
use Rattle.wire.specs.Scan.{Turn, follow, scan_from, scan_at}
use Rattle.wire.proofs.TestLaws.{some≢none}
use Rattle.wire.specs.Lists.{over}
use Rattle.wire.proofs.ScanLaws.{TurnAhead, TurnHas, scan_end, scan_on, scan-has}
use Rattle.protobuf.specs.Varint.{varint_at}
use Rattle.protobuf.proofs.FieldLaws.{Ahead, VarintAhead, varint_ahead}
use Rattle.messages.specs.Message.{Value, number, flag, octets, numbers, numbers_of}
use Rattle.messages.specs.Protobuf.{packed_turn, packed_of}
use Rattle.messages.specs.Placed.{entry_turn, first_entries, read_list_outcome}
use Rattle.messages.specs.declared.format.BodyFormat.TheVariants.{Protobuf}

pub varint_next : (s : List ℕ) (at v next : ℕ) → varint_at s at ≡ Some (v, next) → Ahead (length s) at next
varint_next s at v next e = rw e at (varint_ahead 9 s at)

-- ---- a list of varints to the end

packed_turn_ahead : (n at : ℕ) (ns : List ℕ) (v : Option (ℕ × ℕ)) → VarintAhead n at v → TurnAhead at (packed_turn ns v)
packed_turn_ahead n at ns (Some (v, next)) h = h.behind
packed_turn_ahead n at ns None h = tt

module _ (s : List ℕ) where
  abbrev pub turn : ℕ → List ℕ → Turn (List ℕ) (Option Value)
  turn at ns = packed_turn ns (varint_at s at)

  abbrev pub scan : ℕ → List ℕ → Option Value
  scan at ns = scan_at turn (λ ns. Some (numbers ns)) (length s) at ns

  pub turn_ahead : (at : ℕ) (ns : List ℕ) → TurnAhead at (turn at ns)
  turn_ahead at ns = packed_turn_ahead (length s) at ns (varint_at s at) (varint_ahead 9 s at)

  -- the entries so far, and the rest, give what the whole gives
  pub record Packing (at : ℕ) : Type 0 where
    pub ns : List ℕ
    pub same : scan at ns ≡ packed_of s

  pub packing_none : Packing 0
  unfolding packed_of
  packing_none = record { ns = []; same = refl }

  module _ {at : ℕ} (p : Packing at) where
    pub packing_on : (v next : ℕ) → at < length s → varint_at s at ≡ Some (v, next) → Packing next
    packing_on v next h e = record {
      ns = p.ns ++ (v % 2 ^ 32 ∷ []);
      same = sym (rw e at (scan_on turn (λ ns. Some (numbers ns)) (length s) turn_ahead at p.ns h)) ∙ p.same;
    }

    pub packing_cut : at < length s → varint_at s at ≡ None → packed_of s ≡ None
    packing_cut h e = sym p.same ∙ (rw e at (scan_on turn (λ ns. Some (numbers ns)) (length s) turn_ahead at p.ns h))

    pub packing_end : length s ≤ at → packed_of s ≡ Some (numbers p.ns)
    packing_end h = sym p.same ∙ scan_end turn (λ ns. Some (numbers ns)) (length s) at p.ns h

abbrev IsList : Option Value → Type 0
IsList None = Unit {0}
IsList (Some (number n)) = ⊥
IsList (Some (flag b)) = ⊥
IsList (Some (octets s)) = ⊥
IsList (Some (numbers ns)) = Unit {0}

turn_list : (ns : List ℕ) (v : Option (ℕ × ℕ)) → TurnHas (λ _ _. Unit {0}) IsList (packed_turn ns v)
turn_list ns (Some (v, next)) = tt
turn_list ns None = tt

abbrev entries_of : Option Value → List ℕ
entries_of None = []
entries_of (Some value) = numbers_of value

-- what is read is a list
packed_list : (s : List ℕ) → is_some (packed_of s) ≡ true → packed_of s ≡ Some (numbers (entries_of (packed_of s)))
unfolding packed_of
packed_list s h =
    go (packed_of s)
    (scan-has (λ at ns. packed_turn ns (varint_at s at)) (λ ns. Some (numbers ns)) (length s) (λ _ _. Unit {0}) IsList (λ _ _ _. tt)
    (λ at ns _. turn_list ns (varint_at s at)) 0 [] tt)
    h
  where
    go : (o : Option Value) → IsList o → is_some o ≡ true → o ≡ Some (numbers (entries_of o))
    go None l e = absurd (false≢true e)
    go (Some (number n)) l e = absurd l
    go (Some (flag b)) l e = absurd l
    go (Some (octets x)) l e = absurd l
    go (Some (numbers ns)) l e = refl

-- ---- its first entries

entry_turn_ahead : (n at : ℕ) (ns : List ℕ) (v : Option (ℕ × ℕ)) → VarintAhead n at v → TurnAhead at (entry_turn ns v)
entry_turn_ahead n at ns (Some (v, next)) h = h.behind
entry_turn_ahead n at ns None h = tt

-- a list that begins with others
record Begins (first whole : List ℕ) : Type 0 where
  rest : List ℕ
  same : whole ≡ first ++ rest

turn_begins : (first ns : List ℕ) (v : Option (ℕ × ℕ)) → Begins first ns → TurnHas (λ _ ms. Begins first ms) (Begins first) (entry_turn ns v)
turn_begins first ns (Some (v, next)) b = record {
  rest = b.rest ++ (v % 2 ^ 32 ∷ []);
  same = ap (λ (l : List ℕ). l ++ (v % 2 ^ 32 ∷ [])) b.same ∙ append_assoc first b.rest (v % 2 ^ 32 ∷ []);
}
turn_begins first ns None b = b

module _ (s : List ℕ) where
  abbrev entry : ℕ → List ℕ → Turn (List ℕ) (List ℕ)
  entry at ns = entry_turn ns (varint_at s at)

  abbrev entries : ℕ → List ℕ → List ℕ
  entries at ns = scan_at entry (λ ns. ns) (length s) at ns

  entry_ahead : (at : ℕ) (ns : List ℕ) → TurnAhead at (entry at ns)
  entry_ahead at ns = entry_turn_ahead (length s) at ns (varint_at s at) (varint_ahead 9 s at)

  begins : (at : ℕ) (ns : List ℕ) → Begins ns (entries at ns)
  begins at ns =
      scan-has entry (λ ns. ns) (length s) (λ _ ms. Begins ns ms) (Begins ns) (λ _ _ b. b) (λ at ms b. turn_begins ns ms (varint_at s at) b) at ns
      (record { rest = []; same = sym (append-nil ns) })

  -- `count` entries stand over the front of the room
  pub record Listing (room now' : List ℕ) (count at : ℕ) : Type 0 where
    pub ns : List ℕ
    pub many : count ≡ length ns
    pub few : count ≤ length room
    pub written : now' ≡ over ns room
    pub same : entries at ns ≡ first_entries s

  pub listing_none : (room : List ℕ) → Listing room room 0 0
  unfolding first_entries
  listing_none room = record { ns = []; many = refl; few = omega arith; written = refl; same = refl }

  module _ {room now' : List ℕ} {count at : ℕ} (l : Listing room now' count at) where
    pub listing_size : length now' ≡ length room
    listing_size = ap length l.written ∙ (let a = length-append l.ns (drop (length l.ns) room) in let b = length-drop (length l.ns) room in let m = l.many in let f = l.few in omega arith)

    pub listing_on : (v next : ℕ) → count < length room → varint_at s at ≡ Some (v, next) → Listing room (set now' count (v % 2 ^ 32)) (count + 1) next
    listing_on v next fits e =
        let ahead = varint_next s at v next e in
        let h : at < length s = omega arith in
        let n : List ℕ = l.ns in
        let m : count ≡ length n = l.many in
        let one : length (n ++ (v % 2 ^ 32 ∷ [])) ≡ length n + 1 = length-append n (v % 2 ^ 32 ∷ []) in
        let room' : length n < length room = omega arith in
        record {
          ns = n ++ (v % 2 ^ 32 ∷ []);
          many = omega arith;
          few = omega arith;
          written =
              ap₂ (λ (a : List ℕ) (k : ℕ). set a k (v % 2 ^ 32)) (l.written ∙ ap (λ (x : List ℕ). n ++ x) (drop-cons room (length n) 0 room')) m
              ∙ set-append_seam n _ _ (v % 2 ^ 32)
              ∙ sym (append_snoc n (v % 2 ^ 32) _)
              ∙ ap (λ (k : ℕ). n ++ (v % 2 ^ 32 ∷ []) ++ drop k room) (sym (one ∙ add-one (length n)));
          same = sym (rw e at (scan_on entry (λ ns. ns) (length s) entry_ahead at n h)) ∙ l.same;
        }

    outcome : take (length room) (first_entries s) ≡ l.ns → record { count = count; entries = now' } ≡ read_list_outcome Protobuf s room
    unfolding read_list_outcome
    outcome e = rw (e, l.written, l.many)

    -- the room is full
    pub listing_full : length room ≤ count → record { count = length now'; entries = now' } ≡ read_list_outcome Protobuf s room
    listing_full h =
        let b = begins at l.ns in
        let f = l.few in
        let size : length now' ≡ count = omega (arith, listing_size) in
        let m : length l.ns ≡ length room = (let x = l.many in omega arith) in
        rw size
        (outcome (ap₂ (λ (k : ℕ) (x : List ℕ). take k x) (sym m) (sym l.same ∙ b.same) ∙ take-append_seam l.ns b.rest))

    all_there : first_entries s ≡ l.ns → record { count = count; entries = now' } ≡ read_list_outcome Protobuf s room
    all_there e = outcome (ap (take (length room)) e ∙ take_all (length room) l.ns (let x = l.many in let y = l.few in omega arith))

    pub listing_end : length s ≤ at → record { count = count; entries = now' } ≡ read_list_outcome Protobuf s room
    listing_end h = all_there (sym l.same ∙ scan_end entry (λ ns. ns) (length s) at l.ns h)

    pub listing_cut : at < length s → varint_at s at ≡ None → record { count = count; entries = now' } ≡ read_list_outcome Protobuf s room
    listing_cut h e = all_there (sym l.same ∙ (rw e at (scan_on entry (λ ns. ns) (length s) entry_ahead at l.ns h)))

    -- no varint is left
    pub listing_out : varint_at s at ≡ None → record { count = count; entries = now' } ≡ read_list_outcome Protobuf s room
    listing_out e = go (ltb at (length s)) refl
      where
        go : (t : Bool) → ltb at (length s) ≡ t → record { count = count; entries = now' } ≡ read_list_outcome Protobuf s room
        go true q = listing_cut (ltb-true _ _ q) e
        go false q = listing_end (ltb-false _ _ q)

-- of a list of varints to the end they are all its entries
module _ (s : List ℕ) where
  first_from : (count at : ℕ) (ns ms : List ℕ) → scan_from (turn s) (λ ns. Some (numbers ns)) (length s) count at ns ≡ Some (numbers ms)
      → scan_from (entry s) (λ ns. ns) (length s) count at ns ≡ ms
  unfolding scan_from
  first_from zero at ns ms e = cc
  first_from (suc count) at ns ms e = go (λ ks next e'. first_from count next ks ms e') (ltb at (length s)) (varint_at s at) e
    where
      go : ((ks : List ℕ) (next : ℕ) → scan_from (turn s) (λ ns. Some (numbers ns)) (length s) count next ks ≡ Some (numbers ms)
          → scan_from (entry s) (λ ns. ns) (length s) count next ks ≡ ms)
          → (t : Bool) (v : Option (ℕ × ℕ))
          → (when t then follow (packed_turn ns v) (λ next ks. scan_from (turn s) (λ ns. Some (numbers ns)) (length s) count next ks) else Some (numbers ns)) ≡ Some (numbers ms)
          → (when t then follow (entry_turn ns v) (λ next ks. scan_from (entry s) (λ ns. ns) (length s) count next ks) else ns) ≡ ms
      go ih true (Some (v, next)) e = ih (ns ++ (v % 2 ^ 32 ∷ [])) next e
      go ih true None e = absurd (some≢none (numbers ms) (sym e))
      go ih false v e = cc

  as_scan : scan_from (turn s) (λ ns. Some (numbers ns)) (length s) (length s - 0) 0 [] ≡ packed_of s
  unfolding packed_of scan_at
  as_scan = refl

  are_first : is_some (packed_of s) ≡ true → first_entries s ≡ entries_of (packed_of s)
  unfolding first_entries scan_at
  are_first h = first_from (length s - 0) 0 [] (entries_of (packed_of s)) (as_scan ∙ packed_list s h)

  pub all_entries : is_some (packed_of s) ≡ true → packed_of s ≡ Some (numbers (first_entries s))
  all_entries h = packed_list s h ∙ ap (λ (ns : List ℕ). Some (numbers ns)) (sym (are_first h))
