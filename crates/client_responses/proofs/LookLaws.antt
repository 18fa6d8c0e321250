-- Laws of looking at the bytes held: places moved, a header checked, a body read.
use Rattle.std.proofs.Common.{Option, Some, None, Result, Ok, Err}
use mathlib.Core.Path.{◌≡◌, refl, sym, ap, ◌∙◌}
use Prim.Native.Nat.{ℕ, ◌+◌, ◌-◌, ◌≤◌}
use mathlib.Core.List.{List}
use native.Mathlib.Omega.{arith}
use lib.ListN.{length, take, drop}
use lib.Seq.{drop-drop}
use Rattle.wire.specs.Numbers.{field}
use Rattle.wire.specs.Response.{response_least}
use Rattle.wire.proofs.ListLaws.{length_part, part_of_part}
use Rattle.messages.specs.Formats.{format_of}
use Rattle.messages.specs.Operations.{Output, providers, opcodes, exported, answer_of}
use Rattle.messages.specs.Placed.{span_in, entries_of, list_in, output_in, read_in, SpanWithin, OutputWithin}
use Rattle.messages.specs.declared.format.BodyFormat.{BodyFormat}
use Rattle.wire.specs.declared.span.Span.{Span}
use Rattle.messages.specs.declared.read.Output.{Output as OutputPlaces}
use Rattle.messages.specs.declared.read.Output.TheVariants.{Nothing, Version, Providers, Opcodes, Data, Offset}
use Rattle.client_responses.specs.Reading.{response_content_most, Reply, answered, refused, of_output, body_reply}
use Rattle.client_responses.specs.State.{count_at, bytes_at, state_size, bytes_in, said_of, said}
use Rattle.client_responses.specs.Handed.{format_in}
use Rattle.client_responses.specs.code.Looked.{body_at, span_moved, output_moved, whole, Looked}
use Rattle.client_responses.specs.declared.ReadRefusal.{ReadRefusal}
use Rattle.client_responses.specs.declared.ReadRefusal.TheVariants.{UnreadableBody}
use Rattle.client_responses.specs.declared.look.Response.{Response}

-- ---- places moved

module _ (format : BodyFormat) (n k : ℕ) (m : List ℕ) where
  span_moved_lem : (span : Span) → SpanWithin n span → span_in (take n (drop k m)) span ≡ span_in m (span_moved k span)
  span_moved_lem span w = part_of_part span.len span.start n (drop k m) w ∙ ap (take span.len) (drop-drop span.start k m)

  list_moved : (span : Span) → SpanWithin n span → list_in format (take n (drop k m)) span ≡ list_in format m (span_moved k span)
  list_moved span w = ap (entries_of format) (span_moved_lem span w)

  -- an output in a part, as one in the whole
  output_moved_lem : (o : OutputPlaces) → OutputWithin n o → output_in format (take n (drop k m)) o ≡ output_in format m (output_moved k o)
  output_moved_lem Nothing w = refl
  output_moved_lem (Version major minor) w = refl
  output_moved_lem (Providers span) w = ap providers (list_moved span w)
  output_moved_lem (Opcodes span) w = ap opcodes (list_moved span w)
  output_moved_lem (Data span) w = ap exported (span_moved_lem span w)
  output_moved_lem (Offset at) w = refl

moved_within : (n k most : ℕ) → k + n ≤ most → (o : OutputPlaces) → OutputWithin n o → OutputWithin most (output_moved k o)
moved_within n k most h Nothing w = tt
moved_within n k most h (Version major minor) w = tt
moved_within n k most h (Providers span) w = omega arith
moved_within n k most h (Opcodes span) w = omega arith
moved_within n k most h (Data span) w = omega arith
moved_within n k most h (Offset at) w = tt

pub within_more : (n most : ℕ) → n ≤ most → (o : OutputPlaces) → OutputWithin n o → OutputWithin most o
within_more n most h Nothing w = tt
within_more n most h (Version major minor) w = tt
within_more n most h (Providers span) w = omega arith
within_more n most h (Opcodes span) w = omega arith
within_more n most h (Data span) w = omega arith
within_more n most h (Offset at) w = tt

-- ---- what is said

module _ (m : List ℕ) (reply : Option Reply) where
  pub looked_waiting : reply ≡ None → Looked m reply (Ok None)
  looked_waiting e = record { said_is = ap said_of (sym e); within = tt }

  pub looked_refused : (r : ReadRefusal) → reply ≡ Some (refused r) → Looked m reply (Err r)
  looked_refused r e = record { said_is = ap said_of (sym e); within = tt }

  pub looked_as : (other : Option Reply) (r : Result (Option Response) ReadRefusal) → Looked m other r → reply ≡ other → Looked m reply r
  looked_as other r l e = record { said_is = l.said_is ∙ ap said_of (sym e); within = l.within }

-- ---- a body read

module _ (m : List ℕ) (size : length m ≡ state_size) (opcode status content : ℕ) (few : content ≤ response_content_most) where
  abbrev body : List ℕ
  body = take content (drop body_at m)

  pub body_long : length body ≡ content
  body_long = length_part m body_at content (omega arith)

  pub said_output : (output : OutputPlaces) → read_in (format_in m) body (Some output) ≡ answer_of (format_of (format_in m)) opcode status body → OutputWithin content output
      → Looked m (Some (body_reply (format_in m) opcode status body)) (whole (Ok (record { status = status; output = output_moved body_at output })))
  unfolding body_reply
  said_output output e w = record {
    said_is =
        ap (λ (o : Output). said (answered status o)) (sym (output_moved_lem (format_in m) content body_at m output w))
        ∙ ap (λ (o : Option Output). said (of_output status o)) e;
    within = moved_within content body_at (length m) (omega arith) output w;
  }

  pub said_unreadable : read_in (format_in m) body None ≡ answer_of (format_of (format_in m)) opcode status body → Looked m (Some (body_reply (format_in m) opcode status body)) (whole (Err UnreadableBody))
  unfolding body_reply
  said_unreadable e = looked_refused m _ UnreadableBody (ap (λ (o : Option Output). Some (of_output status o)) (sym e))

-- ---- the bytes held, as the code lends them

pub held_part : (m : List ℕ) (n : ℕ) → n ≡ field count_at 2 m → take (bytes_at + n - bytes_at) (drop bytes_at m) ≡ bytes_in m
unfolding bytes_in
held_part m n e = ap (λ (k : ℕ). take k (drop bytes_at m)) (let x : bytes_at + n - bytes_at ≡ n = omega arith in x ∙ e)

pub count_part : (m : List ℕ) (n : ℕ) → n ≡ field count_at 2 m → take n (drop bytes_at m) ≡ bytes_in m
unfolding bytes_in
count_part m n e = ap (λ (k : ℕ). take k (drop bytes_at m)) e

-- the body among them, in the whole
pub body_part : (m : List ℕ) (count content : ℕ) → response_least + content ≤ count
    → take content (drop response_least (take count (drop bytes_at m))) ≡ take content (drop body_at m)
body_part m count content h = part_of_part content response_least count (drop bytes_at m) h ∙ ap (take content) (drop-drop response_least bytes_at m)
