-- The listed opcodes, and whose they are ("Operations and their fields"; document 02, "Checking signatures").
use Rattle.std.specs.Prelude.{ℕ, List, [], ◌∷◌, eqb}
use Rattle.wire.specs.Choice.{when◌then◌else◌}

-- Ping, ListProviders, ListOpcodes
abbrev pub core_opcodes : List ℕ
core_opcodes = 1 ∷ 8 ∷ 9 ∷ []

-- PsaDestroyKey, PsaAsymmetricVerify, PsaImportKey, PsaExportPublicKey
abbrev pub keystore_opcodes : List ℕ
keystore_opcodes = 3 ∷ 5 ∷ 6 ∷ 7 ∷ []

-- provider 0 is core, 1 keystore
unfoldable pub opcodes_of : (provider : ℕ) → List ℕ
opcodes_of provider = when eqb provider 0 then core_opcodes else keystore_opcodes
