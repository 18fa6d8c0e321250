-- Numbers as octets (RFC 8017, section 4).
use Rattle.std.specs.Prelude.{ℕ, List}
use Rattle.bignum.specs.Numbers.{big_endian, big_endian_of}

-- section 4.2
abbrev pub os2ip : List ℕ → ℕ
os2ip octets = big_endian octets

-- section 4.1, for a number below 256 ^ size
abbrev pub i2osp : (size x : ℕ) → List ℕ
i2osp size x = big_endian_of size x
