-- RSAPublicKey (RFC 8017, appendix A.1.1) in DER (X.690), and what is demanded of its numbers ("Checking signatures", document 02).
use Rattle.std.specs.Prelude.{ℕ, zero, suc, ◌+◌, ◌-◌, ◌*◌, ◌/◌, ◌%◌, ◌^◌, Bool, ◌&&◌, ◌||◌, List, [], ◌∷◌, length, get_or, take, drop, eqb, leb, ltb, Option, Some, None}
use Rattle.wire.specs.Choice.{when◌then◌else◌}
use Rattle.wire.specs.Lists.{every}
use Rattle.rsa_key.specs.Octets.{os2ip}
use Rattle.wire.specs.declared.span.Span.{Span}
use Rattle.rsa_key.specs.declared.key.PublicKey.{PublicKey}

-- ---- an element: tag, length, contents

-- contents that end within the data
abbrev pub within : List ℕ → (start len : ℕ) → Option Span
within s start len = when leb (start + len) (length s) then Some (record { start = start; len = len }) else None

-- the length behind the tag at `at`, in its shortest form (X.690, 10.1): one octet below 128, behind 0x81 one, behind 0x82 two;
-- no element of a key of at most 4,096 bits is longer
abbrev pub length_at : List ℕ → (at : ℕ) → Option Span
length_at s at =
    when ltb (get_or s (at + 1) 0) 128 then within s (at + 2) (get_or s (at + 1) 0)
    else when eqb (get_or s (at + 1) 0) 0x81 then
    (when ltb (get_or s (at + 2) 0) 128 then None else within s (at + 3) (get_or s (at + 2) 0))
    else when eqb (get_or s (at + 1) 0) 0x82 then
    (when eqb (get_or s (at + 2) 0) 0 then None else within s (at + 4) (256 * get_or s (at + 2) 0 + get_or s (at + 3) 0))
    else None

unfoldable pub element_at : List ℕ → (tag at : ℕ) → Option Span
element_at s tag at = when eqb (get_or s at 0) tag then length_at s at else None

-- ---- INTEGER: 2, SEQUENCE: 0x30

-- contents of an INTEGER that is not negative, in as few octets as can be (X.690, 8.3.2)
unfoldable pub unsigned : List ℕ → (start len : ℕ) → Bool
unsigned s start len =
    ltb 0 len && (ltb (get_or s start 0) 128 && (eqb len 1 || (ltb 0 (get_or s start 0) || leb 128 (get_or s (start + 1) 0))))

abbrev pub number_in : List ℕ → (start len : ℕ) → ℕ
number_in s start len = os2ip (take len (drop start s))

-- an odd modulus
unfoldable pub is_modulus : List ℕ → (start len : ℕ) → Bool
is_modulus s start len = unsigned s start len && eqb (number_in s start len % 2) 1

-- an odd exponent from 3 to 2^32 - 1
unfoldable pub is_exponent : List ℕ → (start len : ℕ) → Bool
is_exponent s start len =
    unsigned s start len
    && (leb 3 (number_in s start len) && (ltb (number_in s start len) (2 ^ 32) && eqb (number_in s start len % 2) 1))

-- the exponent, and nothing behind it
unfoldable pub with_exponent : List ℕ → (modulus : Span) → Option Span → Option PublicKey
with_exponent s modulus None = None
with_exponent s modulus (Some c) =
    when eqb (c.start + c.len) (length s) && is_exponent s c.start c.len then Some (record { modulus = modulus; exponent = number_in s c.start c.len }) else None

unfoldable pub with_modulus : List ℕ → Option Span → Option PublicKey
with_modulus s None = None
with_modulus s (Some c) = when is_modulus s c.start c.len then with_exponent s c (element_at s 2 (c.start + c.len)) else None

unfoldable pub in_sequence : List ℕ → Option Span → Option PublicKey
in_sequence s None = None
in_sequence s (Some c) = when eqb (c.start + c.len) (length s) then with_modulus s (element_at s 2 c.start) else None

-- where the modulus's contents stand, and the exponent; none where these octets are no RSAPublicKey
unfoldable pub public_key : List ℕ → Option PublicKey
public_key s = in_sequence s (element_at s 0x30 0)

-- ---- bits

-- which moduli are checked: 1,024 to 4,096 bits, whole octets
abbrev pub bits_least : ℕ
bits_least = 1024

abbrev pub bits_most : ℕ
bits_most = 4096

unfoldable pub supported_bits : ℕ → Bool
supported_bits bits = every (leb bits_least bits ∷ leb bits bits_most ∷ eqb (bits % 8) 0 ∷ [])

-- n has exactly so many bits
abbrev pub has_bits : (n bits : ℕ) → Bool
has_bits n bits = eqb (n / 2 ^ (bits - 1)) 1

-- how many bits n has, a number below 2 ^ w
abbrev pub bit_count : (w n : ℕ) → ℕ
bit_count zero n = 0
bit_count (suc w) n = when leb (2 ^ w) n then suc w else bit_count w n

unfoldable pub bits_in : (key : List ℕ) → Option PublicKey → ℕ
bits_in key None = 0
bits_in key (Some k) = bit_count (8 * k.modulus.len) (number_in key k.modulus.start k.modulus.len)

-- how many bits the modulus of the key in these octets has; 0 where they are no RSAPublicKey
unfoldable pub modulus_bits : (key : List ℕ) → ℕ
modulus_bits key = bits_in key (public_key key)
