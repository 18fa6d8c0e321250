-- What gathering the bytes of a request does.
use Rattle.std.specs.Prelude.{ℕ, ◌+◌, ◌≤◌, ◌<◌, ◌≡◌, List, ◌++◌, length, take, drop, ltb}
use Rattle.wire.specs.Choice.{when◌then◌else◌}
use Rattle.wire.specs.Request.{header_length, request_length}
use Rattle.stream.specs.Frame.{unfinished, bad_start, skipped, whole as is_whole, next}
use Rattle.stream.specs.code.Framed.{frame_of}
use Rattle.stream.specs.Rules.{opened}
use Rattle.connection.specs.Connection.{bytes_at, connection_bytes}
use Rattle.connection.specs.declared.gather.Gathered.{Gathered}

unfoldable pub wanted_of : List ℕ → ℕ
wanted_of s = when ltb (length s) 6 then 6 else when ltb (length s) (header_length s) then header_length s else request_length s

-- the first n bytes that a connection's memory has room for
abbrev pub held_in : (n : ℕ) (memory : List ℕ) → List ℕ
held_in n memory = take n (drop bytes_at memory)

-- an open connection that holds n bytes of an unfinished request
pub record Holding (memory : List ℕ) (n : ℕ) : Type 0 where
  pub memory_is : memory ≡ connection_bytes (opened (held_in n memory))
  pub long : length (held_in n memory) ≡ n
  pub begun : next (held_in n memory) ≡ unfinished

-- k bytes of the chunk stand behind those held: as many as are wanted or there
pub record Filled (held chunk memory : List ℕ) (k : ℕ) : Type 0 where
  pub left : k ≤ length chunk
  pub few : length held + k ≤ wanted_of held
  pub memory_is : memory ≡ connection_bytes (opened (held ++ take k chunk))
  pub more : k < length chunk → length held + k ≡ wanted_of held

-- the bytes of the chunk that were used stand behind those held: all of it, or up to where something can be said of the request
pub record Gathers (held chunk memory : List ℕ) (r : Gathered) : Type 0 where
  pub used : r.used ≤ length chunk
  pub memory_is : memory ≡ connection_bytes (opened (held ++ take r.used chunk))
  pub frame : r.frame ≡ frame_of (next (held ++ take r.used chunk))
  pub all : next (held ++ take r.used chunk) ≡ unfinished → r.used ≡ length chunk
  pub bad : next (held ++ take r.used chunk) ≡ bad_start → length held + r.used ≡ 6
  pub header : (h : List ℕ) (m : ℕ) → next (held ++ take r.used chunk) ≡ skipped h m → held ++ take r.used chunk ≡ h
  pub whole : (n : ℕ) → next (held ++ take r.used chunk) ≡ is_whole n → length held + r.used ≡ n
