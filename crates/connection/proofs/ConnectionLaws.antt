-- A well-formed connection that is stored is well formed in memory, and loaded again it is the same.
use mathlib.Core.Path.{◌≡◌, refl, ap}
use Prim.Native.Nat.{ℕ, ◌+◌, ◌-◌, ◌≤◌}
use mathlib.Core.Bool.{true}
use mathlib.Core.List.{List, [], ◌∷◌}
use native.Mathlib.Omega.{arith}
use lib.ListN.{length, drop, replicate, replicate-append-replicate}
use lib.Seq.{take-append_seam, drop_at}
use lib.Dec.{leb, ltb, eqb}
use borrow.Author.Tests.{leb-true, eq-eqb, ltb-false}
use Rattle.wire.specs.Lists.{padded}
use Rattle.wire.specs.Numbers.{little_endian_of, field}
use Rattle.wire.specs.Request.{magic_number, magic, header_size, content_length, auth_length, header_length}
use Rattle.wire.proofs.TestLaws.{and_left, and_right, or_left, or_right}
use Rattle.wire.proofs.ListLaws.{length_padded, same_refl, same_true}
use Rattle.wire.proofs.NumberLaws.{length_number, field_back}
use Rattle.stream.specs.Frame.{header_least, header_most, content_most, auth_most, legal_start, oversized, unfinished, next}
use Rattle.stream.specs.Rules.{Connection, opened, skipping, closed}
use Rattle.stream.specs.Call.{well_formed}
use Rattle.stream.proofs.FrameLaws.{header_size_append, short, in_header, in_body, Unfinished}
use Rattle.stream.proofs.ChunkLaws.{unfinished_held, unfinished_next, well_skipping}
use Rattle.connection.specs.Connection.{held_most, connection_size, laid_out, connection_bytes, connection_of, well_formed_connection}

-- ---- the parts of a connection's memory

module _ (kind n : ℕ) (bytes : List ℕ) where
  pub number_there : field 1 8 (laid_out kind n bytes) ≡ n
  number_there = field_back 1 7 n (laid_out kind n bytes) (padded held_most bytes) refl

  pub bytes_there : drop 9 (laid_out kind n bytes) ≡ padded held_most bytes
  bytes_there = drop_at (little_endian_of 8 n) (padded held_most bytes) 8 (length_number 8 n)

  pub size_there : length bytes ≤ held_most → length (laid_out kind n bytes) ≡ connection_size
  unfolding little_endian_of
  size_there h =
      let p : length (padded held_most bytes) ≡ held_most = length_padded held_most bytes h in
      omega arith

-- nothing is held and the number is 0
pub blank : (kind : ℕ) → laid_out kind 0 [] ≡ kind ∷ replicate (8 + held_most) 0
unfolding little_endian_of
blank kind = ap (λ (l : List ℕ). kind ∷ l) (replicate-append-replicate 8 held_most 0)

-- ---- how many bytes a well-formed connection holds

pub legal_most : (s : List ℕ) → legal_start s ≡ true → header_size s ≤ header_most
unfolding legal_start
legal_most s h = leb-true _ _ (and_right (leb header_least (header_size s)) _ (and_right (eqb (magic s) magic_number) _ h))

pub held_most_lem : (s : List ℕ) → next s ≡ unfinished → length s ≤ held_most
unfolding oversized
held_most_lem s u = go (unfinished_held s u)
  where
    go : Unfinished s → length s ≤ held_most
    go (short h) = omega arith
    go (in_header h l k) = omega (arith, legal_most s l)
    go (in_body l k m o) =
        let c : content_length s ≤ content_most = ltb-false _ _ (or_left _ _ o) in
        let a : auth_length s ≤ auth_most = ltb-false _ _ (or_right (ltb content_most (content_length s)) _ o) in
        omega (arith, legal_most s l)

-- the header of a request to skip
pub record WholeHeader (header : List ℕ) : Type 0 where
  pub long : 28 ≤ length header
  pub most : length header ≤ held_most
  pub exact : length header ≡ header_length header

pub skipping_whole : (header : List ℕ) (to_go : ℕ) → well_formed (skipping header to_go) ≡ true → WholeHeader header
skipping_whole header to_go w =
    let s = well_skipping header to_go w in
    record { long = s.many; most = omega (arith, legal_most header s.legal, s.exact); exact = s.exact }

-- ---- stored and loaded

pub load_store : (c : Connection) → well_formed c ≡ true → connection_of (connection_bytes c) ≡ c
unfolding connection_bytes connection_of
load_store (opened held) w =
    rw (number_there 0 (length held) held, bytes_there 0 (length held) held)
    (ap opened (take-append_seam held (replicate (held_most - length held) 0)))
load_store (skipping header to_go) w =
    let h = skipping_whole header to_go w in
    let long = h.long in
    let zeros : List ℕ = replicate (held_most - length header) 0 in
    rw (number_there 1 to_go header, bytes_there 1 to_go header, header_size_append header zeros (omega arith), ← h.exact)
    (ap (λ (x : List ℕ). skipping x to_go) (take-append_seam header zeros))
load_store closed w = refl

stored_size : (c : Connection) → well_formed c ≡ true → length (connection_bytes c) ≡ connection_size
unfolding connection_bytes well_formed
stored_size (opened held) w = size_there 0 (length held) held (held_most_lem held (unfinished_next held w))
stored_size (skipping header to_go) w = size_there 1 to_go header (skipping_whole header to_go w).most
stored_size closed w = size_there 2 0 [] (omega arith)

pub stored_good : (c : Connection) → well_formed c ≡ true → well_formed_connection (connection_bytes c) ≡ true
unfolding well_formed_connection
stored_good c w =
    rw (stored_size c w, eq-eqb connection_size connection_size refl, load_store c w, w) (same_refl (connection_bytes c))

-- well-formed memory holds a well-formed connection, and is the bytes of it
module _ (memory : List ℕ) (g : well_formed_connection memory ≡ true) where
  pub memory_good : well_formed (connection_of memory) ≡ true
  unfolding well_formed_connection
  memory_good = and_left _ _ (and_right (eqb (length memory) connection_size) _ g)

  pub store_load : connection_bytes (connection_of memory) ≡ memory
  unfolding well_formed_connection
  store_load = same_true _ _ (and_right (well_formed (connection_of memory)) _ (and_right (eqb (length memory) connection_size) _ g))
