-- RSASSA-PKCS1-v1_5 with SHA-256, the hash handed in (RFC 8017, sections 5.2.2, 8.2.2 and 9.2).
use Rattle.std.specs.Prelude.{ℕ, ◌-◌, ◌/◌, ◌%◌, ◌^◌, Bool, ◌&&◌, List, [], ◌∷◌, ◌++◌, length, replicate, eqb, ltb, Option, Some, None}
use Rattle.wire.specs.Choice.{when◌then◌else◌}
use Rattle.wire.specs.Lists.{every, same}
use Rattle.rsa_key.specs.Octets.{os2ip, i2osp}
use Rattle.rsa.specs.Power.{square_and_multiply}
use Rattle.rsa_key.specs.Key.{number_in, public_key, supported_bits, has_bits}
use Rattle.rsa_key.specs.declared.key.PublicKey.{PublicKey}
use Rattle.rsa.specs.declared.verify.Outcome.{Outcome}
use Rattle.rsa.specs.declared.verify.Outcome.TheVariants.{ValidSignature, InvalidSignature, InvalidKey}
use Rattle.rsa.specs.declared.verify.Verification.{Verification}

-- the verification primitive (section 5.2.2), for a representative below n
abbrev pub rsavp1 : (n e s : ℕ) → ℕ
rsavp1 n e s = s ^ e % n

-- the DigestInfo of SHA-256 up to the hash (section 9.2, note 1); its NULL parameter is there
abbrev pub digest_prefix : List ℕ
digest_prefix =
    0x30 ∷ 0x31 ∷ 0x30 ∷ 0x0d ∷ 0x06 ∷ 0x09 ∷ 0x60 ∷ 0x86 ∷ 0x48 ∷ 0x01 ∷ 0x65 ∷ 0x03 ∷ 0x04 ∷ 0x02 ∷ 0x01 ∷ 0x05 ∷ 0x00 ∷ 0x04 ∷ 0x20 ∷ []

-- EMSA-PKCS1-v1_5 (section 9.2) of a hash of 32 octets: 00 01 PS 00 T, `size` octets in all, of which T and the three take 54
abbrev pub encoded : (size : ℕ) → (hash : List ℕ) → List ℕ
encoded size hash = 0 ∷ 1 ∷ (replicate (size - 54) 0xff ++ (0 ∷ (digest_prefix ++ hash)))

abbrev pub outcome_of : Bool → Outcome
outcome_of valid = when valid then ValidSignature else InvalidSignature

abbrev pub report : Outcome → (multiplications : ℕ) → Verification
report outcome multiplications = record { outcome = outcome; multiplications = multiplications }

-- steps 2c to 4 of section 8.2.2: the encoded messages are compared whole
abbrev pub compared : (n e k : ℕ) → (hash signature : List ℕ) → Outcome
compared n e k hash signature =
    outcome_of (same (i2osp k (rsavp1 n e (os2ip signature))) (encoded k hash))

-- section 8.2.2 for a modulus n of k octets; step 1: the signature's length; step 2b: it is below n
unfoldable pub verified : (n e k : ℕ) → (hash signature : List ℕ) → Verification
verified n e k hash signature =
    when every (eqb (length hash) 32 ∷ eqb (length signature) k ∷ ltb (os2ip signature) n ∷ []) then
    report (compared n e k hash signature) (square_and_multiply n (os2ip signature) e).count
    else report InvalidSignature 0

unfoldable pub verified_by : (key : List ℕ) → (bits : ℕ) → (hash signature : List ℕ) → Option PublicKey → Verification
verified_by key bits hash signature None = report InvalidKey 0
verified_by key bits hash signature (Some k) =
    when supported_bits bits && has_bits (number_in key k.modulus.start k.modulus.len) bits then
    verified (number_in key k.modulus.start k.modulus.len) k.exponent (bits / 8) hash signature
    else report InvalidKey 0

-- a signature checked by the key in these octets, whose modulus must have so many bits
unfoldable pub verification : (key : List ℕ) → (bits : ℕ) → (hash signature : List ℕ) → Verification
verification key bits hash signature = verified_by key bits hash signature (public_key key)
