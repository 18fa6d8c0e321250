-- Document 01's cases marked ★, those of a fifth key moved to a ninth (document 02, "Eight keys each"): one table, one claim, computed
-- from the rules on whole streams.
use mathlib.Core.Path.{refl}
use Prim.Native.Nat.{ℕ, ◌+◌}
use mathlib.Core.List.{List, [], ◌∷◌, ◌++◌, flat_map}
use lib.ListN.{replicate}
use Rattle.billing.specs.Ascii.{ascii}
use Rattle.billing.specs.Claims.{Case, AllHold}
use Rattle.billing.proofs.Cases.{showing, holds, case_of, long_request, request, response, key, key_body, name_body, imported, holding}

-- ---- the table

ping : List ℕ
ping = 0x10 ∷ 0xA7 ∷ 0xC0 ∷ 0x5E ∷ 0x16 ∷ 0x00 ∷ 0x01 ∷ 0x00 ∷ 0x00 ∷ 0 ∷ 0 ∷ 0 ∷ 0 ∷ 0 ∷ 0 ∷ 0 ∷ 0
    ∷ 0x01 ∷ 0x01 ∷ 0x00 ∷ 0x00 ∷ 0x00 ∷ 0x00 ∷ 0x00 ∷ 0x00 ∷ 0x00 ∷ 0x01 ∷ 0x00 ∷ []

pong : List ℕ
pong = 0x10 ∷ 0xA7 ∷ 0xC0 ∷ 0x5E ∷ 0x14 ∷ 0x00 ∷ 0x01 ∷ 0x00 ∷ 0x00 ∷ 0 ∷ 0 ∷ 0 ∷ 0 ∷ 0 ∷ 0 ∷ 0 ∷ 0
    ∷ 0x01 ∷ 0x02 ∷ 0x00 ∷ 0x00 ∷ 0x00 ∷ 0x01 ∷ 0x00 ∷ 0x00 ∷ 0x00 ∷ 0x08 ∷ 0x01 ∷ []

-- C = 4,097 and A = 257
oversized_request : List ℕ
oversized_request =
    (0x10 ∷ 0xA7 ∷ 0xC0 ∷ 0x5E ∷ 0x16 ∷ 0 ∷ 1 ∷ 0 ∷ 0 ∷ 0 ∷ 0 ∷ 0 ∷ 0 ∷ 0 ∷ 0 ∷ 0 ∷ 0 ∷ 1 ∷ 1 ∷ 0
    ∷ 0x01 ∷ 0x10 ∷ 0 ∷ 0 ∷ 0x01 ∷ 0x01 ∷ 1 ∷ 0 ∷ []) ++ replicate (4097 + 257) 0x55

-- the application `b`, which imports keys and destroys one
roster_b : List ℕ
roster_b = 0x01 ∷ 0x01 ∷ 0x00 ∷ 0x62 ∷ []

imports : ℕ → List ℕ
imports name = request 1 1 6 1 (key_body name) (0x62 ∷ [])

destroys : ℕ → List ℕ
destroys name = request 1 1 3 1 (name_body name) (0x62 ∷ [])

case_ping : Case
case_ping = case_of [] ping (pong ∷ []) [] (ascii "taken 28\nopen 1\ndropped 0\nheld 0\n")

case_providers : Case
case_providers = case_of [] (request 1 0 8 0 [] []) (response 0 8 0 0 (0x0A ∷ 0x02 ∷ 0x00 ∷ 0x01 ∷ []) ∷ []) []
    (ascii "taken 28\nopen 1\ndropped 0\nheld 0\n")

case_opcodes_0 : Case
case_opcodes_0 = case_of [] (request 1 0 9 0 [] []) (response 0 9 0 0 (0x0A ∷ 0x03 ∷ 0x01 ∷ 0x08 ∷ 0x09 ∷ []) ∷ []) []
    (ascii "taken 28\nopen 1\ndropped 0\nheld 0\n")

case_opcodes_1 : Case
case_opcodes_1 = case_of [] (request 1 0 9 0 (0x08 ∷ 0x01 ∷ []) []) (response 0 9 0 0 (0x0A ∷ 0x04 ∷ 0x03 ∷ 0x05 ∷ 0x06 ∷ 0x07 ∷ []) ∷ []) []
    (ascii "taken 30\nopen 1\ndropped 0\nheld 0\n")

case_import : Case
case_import = case_of roster_b (imports 0x61) (imported ∷ []) (key 0x61 ∷ [])
    (ascii "taken 41\nline 0 b 1\nkey 0 0 0\nopen 0\ndropped 0\nheld 0\n")

case_bill : Case
case_bill = case_of [] (ping ++ replicate 6 0xFF) (pong ∷ response 0 0 17 0 [] ∷ []) []
    (ascii "taken 34\nopen 1\nrefused 17 1\ndropped 0\nheld 0\n")

case_oversized : Case
case_oversized = case_of [] oversized_request (response 0 1 20 0 [] ∷ []) []
    (ascii "taken 4382\nopen 0\nrefused 20 1\ndropped 0\nheld 0\n")

case_version : Case
case_version = case_of [] (request 2 0 0 0 [] []) (response 0 0 4 0 [] ∷ []) []
    (ascii "taken 28\nopen 0\nrefused 4 1\ndropped 0\nheld 0\n")

case_opcode : Case
case_opcode = case_of [] (request 1 0 0 0 [] []) (response 0 0 9 0 [] ∷ []) []
    (ascii "taken 28\nopen 0\nrefused 9 1\ndropped 0\nheld 0\n")

-- as many keys as an application may hold
eight : List ℕ
eight = 0x61 ∷ 0x62 ∷ 0x63 ∷ 0x64 ∷ 0x65 ∷ 0x66 ∷ 0x67 ∷ 0x68 ∷ []

-- 1142 is 0x0476
case_ninth : Case
case_ninth = case_of roster_b
    (flat_map imports eight ++ (imports 0x69 ++ (destroys 0x62 ++ imports 0x69)))
    (replicate 8 imported ++ (response 1 6 0x76 0x04 [] ∷ response 1 3 0 0 [] ∷ imported ∷ []))
    (key 0x61 ∷ key 0x69 ∷ key 0x63 ∷ key 0x64 ∷ key 0x65 ∷ key 0x66 ∷ key 0x67 ∷ key 0x68 ∷ [])
    (ascii "taken 442\nline 0 b 10\nkey 0 0 0\nkey 0 1 0\nkey 0 2 0\nkey 0 3 0\nkey 0 4 0\nkey 0 5 0\nkey 0 6 0\nkey 0 7 0\nopen 0\nrefused 1142 1\ndropped 0\nheld 0\n")

-- 1139 is 0x0473
case_held : Case
case_held = case_of roster_b
    (flat_map imports eight ++ imports 0x63)
    (replicate 8 imported ++ (response 1 6 0x73 0x04 [] ∷ []))
    (key 0x61 ∷ key 0x62 ∷ key 0x63 ∷ key 0x64 ∷ key 0x65 ∷ key 0x66 ∷ key 0x67 ∷ key 0x68 ∷ [])
    (ascii "taken 369\nline 0 b 8\nkey 0 0 0\nkey 0 1 0\nkey 0 2 0\nkey 0 3 0\nkey 0 4 0\nkey 0 5 0\nkey 0 6 0\nkey 0 7 0\nopen 0\nrefused 1139 1\ndropped 0\nheld 0\n")

pub table : List Case
table =
    case_ping ∷ case_providers ∷ case_opcodes_0 ∷ case_opcodes_1 ∷ case_import ∷ case_bill ∷ case_oversized
    ∷ case_version ∷ case_opcode ∷ case_ninth ∷ case_held ∷ []

-- ---- the claim

pub stars : AllHold table
unfolding table showing flat_map case_of long_request request response ping pong oversized_request roster_b imports destroys key key_body name_body imported holding case_ping case_providers case_opcodes_0 case_opcodes_1 case_import case_bill case_oversized case_version case_opcode eight case_ninth case_held
stars = (holds case_ping refl, (holds case_providers refl, (holds case_opcodes_0 refl, (holds case_opcodes_1 refl, (holds case_import refl, (holds case_bill refl, (holds case_oversized refl, (holds case_version refl, (holds case_opcode refl, (holds case_ninth refl, (holds case_held refl, tt)))))))))))
