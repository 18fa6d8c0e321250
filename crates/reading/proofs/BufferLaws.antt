-- What was written is found again.
use mathlib.Core.Path.{◌≡◌, refl}
use Prim.Native.Nat.{ℕ, ◌<◌, ◌≤◌}
use mathlib.Core.List.{List, [], ◌∷◌}
use native.Mathlib.Omega.{arith}
use borrow.Author.Tests.{ne_eqb}
use lib.ListN.{length, drop, length-append, length-drop}
use lib.Seq.{take-append_seam}
use Rattle.reading.specs.Buffer.{written, bytes_of, as_one}

pub bytes_of_lem : (bytes buffer : List ℕ) → bytes_of (written bytes buffer) ≡ bytes
unfolding written bytes_of
bytes_of_lem bytes buffer = take-append_seam bytes (drop (length bytes) buffer)

pub as_one_lem : (bytes buffer : List ℕ) → 0 < length bytes → as_one (written bytes buffer) ≡ bytes ∷ []
unfolding written as_one
as_one_lem bytes buffer h = rw (ne_eqb (length bytes) 0 (λ e. omega (arith, h, e)), bytes_of_lem bytes buffer)

pub as_none : (buffer : List ℕ) → as_one (written [] buffer) ≡ []
unfolding written as_one
as_none buffer = refl

-- nothing written, the buffer stays
pub stays : (buffer : List ℕ) → written [] buffer ≡ record { count = 0; buffer = buffer }
unfolding written
stays buffer = refl

-- and it keeps its length
pub same_length : (bytes buffer : List ℕ) → length bytes ≤ length buffer → length (written bytes buffer).buffer ≡ length buffer
unfolding written
same_length bytes buffer h =
    let a = length-append bytes (drop (length bytes) buffer) in
    let d = length-drop (length bytes) buffer in
    omega arith
