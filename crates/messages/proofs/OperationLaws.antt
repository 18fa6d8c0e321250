-- What is asked is read as what was asked, and what is answered as what was answered, in every lawful format.
use Rattle.std.proofs.Common.{Some}
use Prim.Native.Nat.{ℕ, ◌<◌}
use native.Mathlib.Omega.{arith}
use mathlib.Core.Path.{◌≡◌, refl, ap}
use mathlib.Core.List.{[], map}
use lib.ListN.{length}
use borrow.Author.Tests.{ne_eqb}
use Rattle.messages.specs.Message.{Message, kind_of, number_of, octets_of, numbers_of, value_at}
use Rattle.messages.specs.Format.{Format, message_bytes, AllFit, read_message}
use Rattle.messages.specs.Operations.{Operation, ping, list_providers, list_opcodes, import_key, destroy_key, export_public_key, verify_signature, opcode_of, input_of, operation_body, input_fields, asking_of, asking_by, asked, operation_in, operation_of, when_read, read_body, Output, nothing, version, providers, opcodes, exported, Answers, of_ping, of_list_providers, of_list_opcodes, of_import, of_destroy, of_export, of_verify, offset, Carries, served, not_read, refused, message_of, output_bytes, output_of, offset_of, answer_of}
use Rattle.messages.proofs.RoundTrip.{Lawful, round_trip}

module _ (format : Format) (law : Lawful format) where
  pub body_back : {A : Type 0} (m : Message) (f : Message → A) → length m < 256 → AllFit format m → read_body format (map kind_of m) (message_bytes format m) f ≡ Some (f m)
  unfolding read_body
  body_back m f few fits = ap (when_read f) (round_trip format law m few fits)

  asked_read : (opcode : ℕ) (m : Message) → length m < 256 → AllFit format m
      → asking_by opcode (read_message format (map kind_of m) (message_bytes format m)) ≡ asking_of opcode m
  asked_read opcode m few fits = ap (asking_by opcode) (round_trip format law m few fits)

  pub operation_back : (operation : Operation) → AllFit format (input_of operation) → operation_of format (opcode_of operation) (operation_body format operation) ≡ Some operation
  unfolding operation_of asked operation_body input_fields asking_of
  operation_back ping fits = ap operation_in (asked_read 1 [] (omega arith) fits)
  operation_back list_providers fits = ap operation_in (asked_read 8 [] (omega arith) fits)
  operation_back (list_opcodes provider) fits = ap operation_in (asked_read 9 (input_of (list_opcodes provider)) (omega arith) fits)
  operation_back (import_key key) fits = ap operation_in (asked_read 6 (input_of (import_key key)) (omega arith) fits)
  operation_back (destroy_key name) fits = ap operation_in (asked_read 3 (input_of (destroy_key name)) (omega arith) fits)
  operation_back (export_public_key name) fits = ap operation_in (asked_read 7 (input_of (export_public_key name)) (omega arith) fits)
  operation_back (verify_signature name hash signature) fits =
      ap operation_in (asked_read 5 (input_of (verify_signature name hash signature)) (omega arith) fits)

  pub output_back : (opcode : ℕ) (output : Output) → Answers opcode output → AllFit format (message_of output) → output_of format opcode (output_bytes format output) ≡ Some output
  unfolding output_of output_bytes
  output_back opcode (version major minor) of_ping fits = body_back (message_of (version major minor)) (λ m. version (number_of (value_at m 1)) (number_of (value_at m 2))) (omega arith) fits
  output_back opcode (providers list) of_list_providers fits = body_back (message_of (providers list)) (λ m. providers (numbers_of (value_at m 1))) (omega arith) fits
  output_back opcode (opcodes list) of_list_opcodes fits = body_back (message_of (opcodes list)) (λ m. opcodes (numbers_of (value_at m 1))) (omega arith) fits
  output_back opcode nothing of_import fits = body_back [] (λ m. nothing) (omega arith) fits
  output_back opcode nothing of_destroy fits = body_back [] (λ m. nothing) (omega arith) fits
  output_back opcode (exported data') of_export fits = body_back (message_of (exported data')) (λ m. exported (octets_of (value_at m 1))) (omega arith) fits
  output_back opcode nothing of_verify fits = body_back [] (λ m. nothing) (omega arith) fits
  output_back opcode (offset at) answers fits = elim answers [ ]

  pub offset_back : (at : ℕ) → AllFit format (message_of (offset at)) → offset_of format (output_bytes format (offset at)) ≡ Some (offset at)
  unfolding offset_of output_bytes
  offset_back at fits = body_back (message_of (offset at)) (λ m. offset (number_of (value_at m 1))) (omega arith) fits

  none_written : output_bytes format nothing ≡ []
  unfolding output_bytes message_bytes
  none_written = refl

  -- what a response carries is read as what it carries, whatever its status
  pub answer_back : (opcode status : ℕ) (output : Output) → Carries opcode status output → AllFit format (message_of output) → answer_of format opcode status (output_bytes format output) ≡ Some output
  unfolding answer_of
  answer_back opcode status output (served answers) fits = output_back opcode output answers fits
  answer_back opcode status (offset at) not_read fits = offset_back at fits
  answer_back opcode status nothing (refused a b) fits = rw (ne_eqb _ _ a, ne_eqb _ _ b, none_written, answer_of)
