-- Cases that the ★ table does not reach, in one table under one claim: a header with H = 30, an export of each of two
-- keys, one name held by two applications, uses of own keys and of one that we ship (document 02, "Use per key"), and fields
-- that are skipped ("Unlisted fields").
use mathlib.Core.Path.{refl}
use Prim.Native.Nat.{ℕ}
use mathlib.Core.Bool.{true, false}
use mathlib.Core.List.{List, [], ◌∷◌, ◌++◌}
use lib.ListN.{length, replicate}
use Rattle.registry.specs.Slots.{free, held}
use Rattle.billing.specs.Ascii.{ascii}
use Rattle.billing.specs.Claims.{Case, AllHold}
use Rattle.billing.proofs.Cases.{showing, holds, case_of, long_request, request, response, key, key_body, name_body, imported, holding, with_list_lem}

-- applications `b` and `c`
roster_bc : List ℕ
roster_bc = 0x01 ∷ 0x01 ∷ 0x00 ∷ 0x62 ∷ 0x01 ∷ 0x01 ∷ 0x00 ∷ 0x63 ∷ []

more : List ℕ
more = 0x0A ∷ 0x01 ∷ 0x7A ∷ 0x12 ∷ 0x01 ∷ 0xCC ∷ 0x18 ∷ 0x00 ∷ []

imports : (name application : ℕ) → List ℕ
imports name application = request 1 1 6 1 (key_body name) (application ∷ [])

-- data CC DD EE
imports_other : (name application : ℕ) → List ℕ
imports_other name application =
    request 1 1 6 1 (0x0A ∷ 0x01 ∷ name ∷ 0x12 ∷ 0x03 ∷ 0xCC ∷ 0xDD ∷ 0xEE ∷ 0x18 ∷ 0x80 ∷ 0x10 ∷ 0x20 ∷ 0x01 ∷ []) (application ∷ [])

exports : (name application : ℕ) → List ℕ
exports name application = request 1 1 7 1 (name_body name) (application ∷ [])

-- the key's data as field 1
exported : List ℕ → List ℕ
exported bytes = response 1 7 0 0 (0x0A ∷ length bytes ∷ bytes)

case_long_header : Case
case_long_header = case_of roster_bc (long_request more 1 1 6 1 (key_body 0x61) (0x62 ∷ []) ++ exports 0x61 0x62)
    (imported ∷ exported (0xAA ∷ 0xBB ∷ []) ∷ [])
    (key 0x61 ∷ [])
    (ascii "taken 81\nline 0 b 2\nline 1 c 0\nkey 0 0 1\nopen 0\ndropped 0\nheld 0\n")

-- 1140 is 0x0474
case_two_keys : Case
case_two_keys = case_of roster_bc
    (imports 0x61 0x62 ++ (imports_other 0x64 0x62 ++ (imports_other 0x61 0x63 ++ (exports 0x64 0x62 ++ (exports 0x61 0x62 ++ (exports 0x61 0x63 ++ exports 0x64 0x63))))))
    (imported ∷ imported ∷ imported ∷ exported (0xCC ∷ 0xDD ∷ 0xEE ∷ []) ∷ exported (0xAA ∷ 0xBB ∷ []) ∷ exported (0xCC ∷ 0xDD ∷ 0xEE ∷ []) ∷ response 1 7 0x74 0x04 [] ∷ [])
    (key 0x61 ∷ held (record { name = 0x64 ∷ []; bytes = 0xCC ∷ 0xDD ∷ 0xEE ∷ []; bits = 2048; export_allowed = true; verify_allowed = false }) ∷ [])
    (ascii "taken 253\nline 0 b 4\nline 1 c 2\nkey 0 0 1\nkey 0 1 1\nkey 1 0 1\nopen 0\nrefused 1140 1\ndropped 0\nheld 0\n")

destroys : (name application : ℕ) → List ℕ
destroys name application = request 1 1 3 1 (name_body name) (application ∷ [])

-- a list with the key `f`
list_f : List ℕ
list_f = 0x01 ∷ 0x01 ∷ 0x00 ∷ 0x66 ∷ 0x02 ∷ 0x02 ∷ 0x00 ∷ 0xAA ∷ 0xBB ∷ []

-- three own keys are exported, and the second is destroyed; then the listed one's export is served, and that of the destroyed one refused
case_uses : Case
case_uses = with_list_lem list_f (case_of roster_bc
    (imports 0x61 0x62 ++ (imports 0x64 0x62 ++ (imports 0x65 0x62 ++ (exports 0x64 0x62 ++ (exports 0x65 0x62 ++ (exports 0x61 0x62 ++ (exports 0x61 0x62 ++ (destroys 0x64 0x62
    ++ (exports 0x66 0x62 ++ exports 0x64 0x62)))))))))
    (imported ∷ imported ∷ imported ∷ exported (0xAA ∷ 0xBB ∷ []) ∷ exported (0xAA ∷ 0xBB ∷ []) ∷ exported (0xAA ∷ 0xBB ∷ []) ∷ exported (0xAA ∷ 0xBB ∷ []) ∷ response 1 3 0 0 [] ∷ exported (0xAA ∷ 0xBB ∷ []) ∷ response 1 7 0x74 0x04 [] ∷ [])
    (key 0x61 ∷ free ∷ key 0x65 ∷ [])
    (ascii "taken 347\nline 0 b 9\nline 1 c 0\nkey 0 0 2\nkey 0 2 1\nopen 0\nrefused 1140 1\ndropped 0\nheld 0\n"))

-- a Ping whose body is groups inside each other
pings : (depth : ℕ) → List ℕ
pings depth = request 1 0 1 0 (replicate depth 0x0B ++ replicate depth 0x0C) []

-- an unlisted number, then a key, then the name's number with another wire type
imports_more : (name application : ℕ) → List ℕ
imports_more name application = request 1 1 6 1 (0x30 ∷ 0x05 ∷ (key_body name ++ (0x08 ∷ 0x07 ∷ []))) (application ∷ [])

case_skipped : Case
case_skipped = case_of roster_bc (pings 16 ++ (pings 17 ++ imports_more 0x61 0x62))
    (response 0 1 0 0 (0x08 ∷ 0x01 ∷ []) ∷ response 0 1 7 0 [] ∷ imported ∷ [])
    (key 0x61 ∷ [])
    (ascii "taken 167\nline 0 b 1\nline 1 c 0\nkey 0 0 0\nopen 1\nrefused 7 1\ndropped 0\nheld 0\n")

pub table : List Case
table = case_long_header ∷ case_two_keys ∷ case_uses ∷ case_skipped ∷ []

pub beyond : AllHold table
unfolding table showing case_of long_request request response key key_body name_body imported holding with_list_lem roster_bc more imports imports_other exports exported destroys list_f pings imports_more case_long_header case_two_keys case_uses case_skipped
beyond = (holds case_long_header refl, (holds case_two_keys refl, (holds case_uses refl, (holds case_skipped refl, tt))))
