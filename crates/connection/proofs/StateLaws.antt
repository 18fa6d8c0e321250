-- What well-formed memory holds, by the state that the code reads off it.
use Prim.Native.Nat.{ℕ, ◌-◌, ◌≤◌}
use mathlib.Core.Path.{◌≡◌, refl, sym, ap, ap₂, ◌∙◌}
use mathlib.Core.Bool.{true}
use mathlib.Core.List.{List}
use native.Mathlib.Omega.{arith}
use lib.ListN.{length, take, drop, replicate, length-append, length-replicate}
use lib.Seq.{take-append_seam, length-take-le}
use Rattle.wire.specs.Lists.{padded}
use Rattle.wire.specs.Numbers.{little_endian_of}
use Rattle.wire.specs.Request.{header_length}
use Rattle.wire.proofs.NumberLaws.{length_number}
use Rattle.stream.specs.Frame.{unfinished, skipped, next}
use Rattle.stream.specs.Rules.{Connection, opened, skipping, closed}
use Rattle.stream.specs.Call.{well_formed}
use Rattle.stream.proofs.FrameLaws.{legal_size, header_size_append}
use Rattle.stream.proofs.ChunkLaws.{unfinished_next, skip_found}
use Rattle.connection.specs.Connection.{held_most, connection_size, laid_out, connection_bytes, connection_of, well_formed_connection}
use Rattle.connection.specs.code.State.{state_of}
use Rattle.connection.specs.code.Gather.{held_in, Holding}
use Rattle.connection.specs.declared.check.State.TheVariants.{Open, Skipping, Closed}
use Rattle.connection.proofs.ConnectionLaws.{bytes_there, size_there, legal_most, WholeHeader, memory_good, store_load}
use Rattle.connection.proofs.GatherLaws.{holding_of, held_back}

-- ---- the state, turned round

-- n bytes are held
pub record IsOpen (k : Connection) (n : ℕ) : Type 0 where
  pub held : List ℕ
  pub long : length held ≡ n
  pub is : k ≡ opened held

pub state_open : (k : Connection) (n : ℕ) → state_of k ≡ Open n → IsOpen k n
state_open (opened held) n e = record { held = held; long = cc; is = refl }
state_open (skipping header to_go) n e = absurd (let z : ◌≡◌ {A = ℕ} 0 1 = cc in omega arith)
state_open closed n e = absurd (let z : ◌≡◌ {A = ℕ} 0 1 = cc in omega arith)

pub record IsSkipping (k : Connection) (to_go : ℕ) : Type 0 where
  pub header : List ℕ
  pub is : k ≡ skipping header to_go

pub state_skipping : (k : Connection) (to_go : ℕ) → state_of k ≡ Skipping to_go → IsSkipping k to_go
state_skipping (opened held) n e = absurd (let z : ◌≡◌ {A = ℕ} 0 1 = cc in omega arith)
state_skipping (skipping header to_go) n e = record { header = header; is = cc }
state_skipping closed n e = absurd (let z : ◌≡◌ {A = ℕ} 0 1 = cc in omega arith)

pub state_closed : (k : Connection) → state_of k ≡ Closed → k ≡ closed
state_closed (opened held) e = cc
state_closed (skipping header to_go) e = cc
state_closed closed e = refl

-- ---- an open connection

module _ (memory : List ℕ) (g : well_formed_connection memory ≡ true) where
  pub memory_is : (k : Connection) → connection_of memory ≡ k → memory ≡ connection_bytes k
  memory_is k e = sym (store_load memory g) ∙ ap connection_bytes e

  module _ (n : ℕ) (o : IsOpen (connection_of memory) n) where
    begun : next o.held ≡ unfinished
    unfolding well_formed
    begun = unfinished_next o.held (ap well_formed (sym o.is) ∙ memory_good memory g)

    pub open_holds : Holding memory n
    open_holds = holding_of memory o.held n (memory_is (opened o.held) o.is) o.long begun

    pub open_held : connection_of memory ≡ opened (held_in n memory)
    open_held =
        o.is
        ∙ ap opened (sym (ap₂ (λ (k : ℕ) (m : List ℕ). held_in k m) (sym o.long) (memory_is (opened o.held) o.is) ∙ held_back o.held))

-- ---- a whole header that is held

-- a header to skip has room
pub header_few : (s header : List ℕ) (missing : ℕ) → next s ≡ skipped header missing → length header ≤ held_most
header_few s header missing e =
    let k = skip_found s header missing e in
    omega (arith, ap length k.header_is, length-take-le (header_length s) s k.skipped_is.header, legal_most s k.skipped_is.legal)

-- the bytes are the header
pub header_whole : (header : List ℕ) (missing : ℕ) → next header ≡ skipped header missing → WholeHeader header
header_whole header missing e =
    let k = skip_found header header missing e in
    let exact : length header ≡ header_length header = ap length k.header_is ∙ length-take-le (header_length header) header k.skipped_is.header in
    let least = legal_size header k.skipped_is.legal in
    record { long = omega arith; most = header_few header header missing e; exact = exact }

module _ (memory header : List ℕ) (kind number : ℕ) (laid : memory ≡ laid_out kind number header) (h : WholeHeader header) where
  behind : drop 9 memory ≡ padded held_most header
  behind = ap (drop 9) laid ∙ bytes_there kind number header

  pub header_long : header_length (drop 9 memory) ≡ length header
  header_long =
      let long = h.long in
      ap header_length behind
      ∙ (let x : header_length (padded held_most header) ≡ length header = (let s = header_size_append header (replicate (held_most - length header) 0) (omega arith) in let e = h.exact in omega arith) in x)

  pub header_there : take (header_length (drop 9 memory)) (drop 9 memory) ≡ header
  header_there =
      ap₂ (λ (n : ℕ) (b : List ℕ). take n b) header_long behind
      ∙ take-append_seam header (replicate (held_most - length header) 0)

  pub header_size_lem : length memory ≡ connection_size
  header_size_lem = ap length laid ∙ size_there kind number header h.most

-- ---- memory of the exact size has room for the bytes that it holds

pub held_fits : (memory held : List ℕ) → length memory ≡ connection_size → memory ≡ connection_bytes (opened held) → length held ≤ held_most
unfolding connection_bytes
held_fits memory held size e =
    let zeros : List ℕ = replicate (held_most - length held) 0 in
    let whole : length (laid_out 0 (length held) held) ≡ connection_size = ap length (sym e) ∙ size in
    let number = length-append (little_endian_of 8 (length held)) (padded held_most held) in
    let eight = length_number 8 (length held) in
    let padding = length-append held zeros in
    let many = length-replicate {A = ℕ} (held_most - length held) 0 in
    omega arith
