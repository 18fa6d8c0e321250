-- How many bytes of an unfinished request a well-formed connection has seen, as its memory says.
use mathlib.Core.Path.{◌≡◌, refl, sym, ap, ◌∙◌}
use mathlib.Core.Bool.{true}
use mathlib.Core.List.{List, ◌++◌}
use Prim.Native.Nat.{ℕ, ◌-◌, ◌≤◌}
use native.Mathlib.Omega.{arith}
use lib.ListN.{length, drop, replicate, length-append}
use Rattle.wire.specs.Lists.{padded}
use Rattle.wire.specs.Request.{request_least, request_length}
use Rattle.stream.specs.Rules.{Connection, opened, skipping, closed, held_bytes}
use Rattle.stream.specs.Call.{well_formed}
use Rattle.stream.proofs.FrameLaws.{request_length_append}
use Rattle.stream.proofs.ChunkLaws.{well_skipping}
use Rattle.connection.specs.Connection.{held_most, connection_bytes, connection_of, well_formed_connection}
use Rattle.connection.specs.code.State.{state_of}
use Rattle.connection.specs.declared.check.State.TheVariants.{Open, Skipping, Closed}
use Rattle.connection.proofs.ConnectionLaws.{bytes_there, memory_good, store_load}

pub held_open : (x : Connection) (n : ℕ) → state_of x ≡ Open n → n ≡ held_bytes x
unfolding held_bytes
held_open (opened held) n e = cc
held_open (skipping header to_go) n e = absurd (let z : ◌≡◌ {A = ℕ} 0 1 = cc in omega arith)
held_open closed n e = absurd (let z : ◌≡◌ {A = ℕ} 0 1 = cc in omega arith)

pub held_closed : (x : Connection) → state_of x ≡ Closed → ◌≡◌ {A = ℕ} 0 (held_bytes x)
unfolding held_bytes
held_closed (opened held) e = absurd (let z : ◌≡◌ {A = ℕ} 0 1 = cc in omega arith)
held_closed (skipping header to_go) e = absurd (let z : ◌≡◌ {A = ℕ} 0 1 = cc in omega arith)
held_closed closed e = refl

-- a skipped request, whose header stands at the front of `bytes`
pub record Skipped (bytes : List ℕ) (x : Connection) (to_go : ℕ) : Type 0 where
  pub many : request_least ≤ length bytes
  pub most : to_go ≤ request_length bytes
  pub held : request_length bytes - to_go ≡ held_bytes x

-- what a skipping connection is, laid out in memory
skipped_header : (header : List ℕ) (to_go : ℕ) → well_formed (skipping header to_go) ≡ true → Skipped (padded held_most header) (skipping header to_go) to_go
unfolding well_formed held_bytes
skipped_header header to_go w =
    let f = well_skipping header to_go w in
    let many = f.many in
    let most = f.most in
    let zeros : List ℕ = replicate (held_most - length header) 0 in
    let same : request_length (header ++ zeros) ≡ request_length header = request_length_append header zeros many in
    record {
      many = omega (arith, length-append header zeros);
      most = omega arith;
      held = ap (λ (n : ℕ). n - to_go) same;
    }

module _ (memory : List ℕ) (g : well_formed_connection memory ≡ true) where
  skipped_as : (x : Connection) → connection_of memory ≡ x → (to_go : ℕ) → state_of x ≡ Skipping to_go → Skipped (drop 9 memory) x to_go
  unfolding connection_bytes
  skipped_as (opened held) e to_go s = absurd (let z : ◌≡◌ {A = ℕ} 0 1 = cc in omega arith)
  skipped_as (skipping header k) e to_go s =
      let n : k ≡ to_go = cc in
      let good : well_formed (skipping header k) ≡ true = ap well_formed (sym e) ∙ memory_good memory g in
      let there : padded held_most header ≡ drop 9 memory
      = sym (bytes_there 1 k header) ∙ ap (drop 9) (ap connection_bytes (sym e) ∙ store_load memory g) in
      rw (← n, ← there) (skipped_header header k good)
  skipped_as closed e to_go s = absurd (let z : ◌≡◌ {A = ℕ} 0 1 = cc in omega arith)

  pub skipped_held : (to_go : ℕ) → state_of (connection_of memory) ≡ Skipping to_go → Skipped (drop 9 memory) (connection_of memory) to_go
  skipped_held to_go s = skipped_as (connection_of memory) refl to_go s
