-- Laws of the tests before writing: what is left to be judged behind those that passed, and what they say of a request.
use Rattle.std.proofs.Common.{None}
use Prim.Native.Nat.{ℕ, ◌+◌, ◌≤◌, ◌<◌}
use mathlib.Core.Path.{◌≡◌, sym, ◌∙◌}
use mathlib.Core.Bool.{Bool, true, false, not}
use mathlib.Core.List.{List}
use native.Mathlib.Omega.{arith}
use borrow.Author.Tests.{ltb-false, lt-leb, not-false}
use lib.ListN.{length, get_or}
use lib.Dec.{ltb}
use Rattle.wire.specs.Choice.{first_of}
use Rattle.wire.specs.Request.{content_most}
use Rattle.wire.proofs.TestLaws.{none_at, first_behind}
use Rattle.keys.specs.Names.{key_name_most, legal_name}
use Rattle.keys.specs.Key.{Key, legal_data, import_bits}
use Rattle.messages.specs.Formats.{format_of}
use Rattle.messages.specs.Operations.{Operation, ping, import_key, destroy_key, verify_signature, operation_body}
use Rattle.messages.specs.declared.format.BodyFormat.{BodyFormat}
use Rattle.messages.proofs.FormatsLaws.{verify_body_least}
use Rattle.client_requests.specs.Writing.{Sender, body_format, request_buffer_least, legal_types, legal_sender, legal_body, field_tests, write_tests}
use Rattle.client_requests.specs.declared.Types.{Types}
use Rattle.client_requests.specs.declared.WriteRefusal.{WriteRefusal}
use Rattle.client_requests.specs.declared.WriteRefusal.TheVariants.{BufferTooSmall}

-- what verify carries is too long by itself
pub too_long : (format : BodyFormat) (name hash signature : List ℕ) → content_most < length name + length hash + length signature
    → legal_body format name hash signature ≡ false
too_long format name hash signature h =
    let long : content_most < length (operation_body (format_of format) (verify_signature name hash signature)) = omega (arith, verify_body_least format name hash signature) in
    lt-leb _ _ long

-- ---- what holds where every test is passed

pub record Passed (out : List ℕ) (types : Types) (sender : Sender) (operation : Operation) : Type 0 where
  pub listed : legal_types types ≡ true
  pub room : request_buffer_least ≤ length out
  pub legal : legal_sender sender ≡ true
  pub fields : first_of (field_tests (body_format types) operation) ≡ None

pub passed : (out : List ℕ) (types : Types) (sender : Sender) (operation : Operation) → first_of (write_tests out types sender operation) ≡ None → Passed out types sender operation
unfolding write_tests first_of
passed out types sender operation none' =
    let tests : List (Bool × WriteRefusal) = write_tests out types sender operation in
    let listed : not (legal_types types) ≡ false = none_at tests 0 BufferTooSmall none' in
    let room : ltb (length out) request_buffer_least ≡ false = none_at tests 1 BufferTooSmall none' in
    let legal : not (legal_sender sender) ≡ false = none_at tests 2 BufferTooSmall none' in
    let first : first_of (write_tests out types sender ping) ≡ None = rw (listed, room, legal) in
    record {
      listed = not-false _ listed;
      room = ltb-false _ _ room;
      legal = not-false _ legal;
      fields = sym (first_behind (write_tests out types sender ping) (field_tests (body_format types) operation) first) ∙ none';
    }

-- of what the operation carries
module _ (format : BodyFormat) where
  test_fails : (operation : Operation) (k : ℕ) → first_of (field_tests format operation) ≡ None → (get_or (field_tests format operation) k (false, BufferTooSmall)).0 ≡ false
  test_fails operation k e = none_at (field_tests format operation) k BufferTooSmall e

  pub name_passed : (name : List ℕ) → first_of (field_tests format (destroy_key name)) ≡ None → legal_name key_name_most name ≡ true
  name_passed name e = not-false _ (test_fails (destroy_key name) 0 e)

  module _ (key : Key) (e : first_of (field_tests format (import_key key)) ≡ None) where
    pub import_name_passed : legal_name key_name_most key.name ≡ true
    import_name_passed = not-false _ (test_fails (import_key key) 0 e)

    pub import_data_passed : legal_data key.bytes ≡ true
    import_data_passed = not-false _ (test_fails (import_key key) 1 e)

    pub import_bits_passed : import_bits key.bits ≡ true
    import_bits_passed = not-false _ (test_fails (import_key key) 2 e)

  pub body_passed : (name hash signature : List ℕ) → first_of (field_tests format (verify_signature name hash signature)) ≡ None → legal_body format name hash signature ≡ true
  body_passed name hash signature e = not-false _ (test_fails (verify_signature name hash signature) 2 e)
