-- What the system's answers come to when a file is opened and read.
use Rattle.std.specs.Prelude.{ℕ, zero, suc, min, Bool, true, false, ℤ, pos, negsuc, Option, Some, None}
use Rattle.starting.specs.declared.files.Input.{Input}
use Rattle.starting.specs.declared.files.Input.TheVariants.{Bytes, End, Failed}

-- of opening: the file's number, or -1
unfoldable pub file_of : ℤ → Option ℤ
file_of (pos fd) = Some (pos fd)
file_of (negsuc k) = None

-- of reading: how many bytes, 0 at the end, or -1
unfoldable pub size_input : ℕ → Input
size_input zero = End
size_input (suc n) = Bytes (suc n)

unfoldable pub input_of : ℤ → (most : ℕ) → Input
input_of (pos n) most = size_input (min n most)
input_of (negsuc k) most = Failed

-- whether a file was read to its end, by what the last read gave
unfoldable pub is_end : Input → Bool
is_end End = true
is_end (Bytes n) = false
is_end Failed = false

-- what was kept of a file, by whether it was read to its end
unfoldable pub front_of : (n : ℕ) (is_whole : Bool) → Option ℕ
front_of n true = Some n
front_of n false = None
