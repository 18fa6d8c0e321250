-- A response that is for the request, or the answer with status 17, is read as what its body says.
use Rattle.std.proofs.Common.{Some, None}
use mathlib.Core.Path.{◌≡◌, refl, sym, ap, ◌∙◌}
use Prim.Native.Nat.{ℕ, ◌+◌, ◌*◌, ◌^◌, ◌≤◌, ◌<◌}
use mathlib.Core.Bool.{Bool, true, false, false≢true, ◌||◌, or-true}
use mathlib.Core.List.{List, [], ◌∷◌, ◌++◌}
use native.Mathlib.Omega.{arith}
use borrow.Author.Tests.{eq-eqb, le-ltb, eqb-true}
use lib.ListN.{length, take, drop, length-append}
use lib.Dec.{ltb, eqb}
use Rattle.wire.specs.Choice.{first_of}
use Rattle.wire.specs.Lists.{all, one_of}
use Rattle.wire.specs.Request.{magic_number, magic, header_size}
use Rattle.wire.specs.Response.{response_header_size, response_least, response_bytes}
use Rattle.wire.specs.declared.response.ResponseHeader.{ResponseHeader}
use Rattle.wire.proofs.ResponseLaws.{response_long, response_magic, response_size, response_body, response_back}
use Rattle.messages.specs.Formats.{format_of, format_for, content_type_of, content_types}
use Rattle.messages.specs.Operations.{Carries, message_of, output_bytes}
use Rattle.messages.specs.Message.{Message, number, flag, octets, numbers}
use Rattle.messages.specs.Format.{AllFit}
use Rattle.messages.specs.declared.format.BodyFormat.{BodyFormat}
use Rattle.messages.specs.declared.format.BodyFormat.TheVariants.{Protobuf, Tagged}
use Rattle.messages.proofs.OperationLaws.{answer_back}
use Rattle.messages.proofs.FormatsLaws.{lawful}
use Rattle.judgement.specs.Status.{status_number}
use Rattle.judgement.specs.Operations.{Result}
use Rattle.client_responses.specs.Reading.{provider_for, response_content_most, is_its, is_invalid_header, type_for, header_tests, of_output, body_reply, found_behind, found}
use Rattle.client_responses.specs.declared.Asked.{Asked}
use Rattle.conversation.specs.Conversation.{reply_of}

-- ---- a response of any status and body that is for the request

-- the header of such a response, as it is read
abbrev pub header_of : (provider session content_type opcode status : ℕ) (body : List ℕ) → ResponseHeader
header_of provider session content_type opcode status body = record {
  major = 1;
  minor = 0;
  provider = provider;
  session = session;
  content_type = content_type;
  content_length = length body;
  opcode = opcode;
  status = status;
}

-- it is its request's, or status 17; and its content type is the one that is wanted
abbrev pub Its : Asked → ResponseHeader → Type 0
Its asked h = (is_its asked.opcode asked.session h || is_invalid_header h ≡ true) × (h.content_type ≡ type_for asked.accept_type h.status)

-- a header that passes
pub passes : (asked : Asked) (h : ResponseHeader) → h.major ≡ 1 → h.minor ≡ 0
    → Its asked h → h.content_length ≤ response_content_most → first_of (header_tests asked h) ≡ None
unfolding header_tests first_of
passes asked h major minor (its, type) short =
    rw (eq-eqb h.major 1 major, eq-eqb h.minor 0 minor, eq-eqb h.content_type (type_for asked.accept_type h.status) type, its, le-ltb response_content_most h.content_length short)

-- and then the body decides
behind : (asked : Asked) (h : ResponseHeader) (bytes : List ℕ) → first_of (header_tests asked h) ≡ None → response_least + h.content_length ≤ length bytes
    → found_behind asked h bytes ≡ Some (body_reply (format_for asked.accept_type) asked.opcode h.status (take h.content_length (drop response_least bytes)))
unfolding found_behind
behind asked h bytes e long = rw (e, found_behind, le-ltb (length bytes) (response_least + h.content_length) long)

module _ (asked : Asked) (provider session content_type opcode status : ℕ) (body rest : List ℕ) where
  abbrev written : List ℕ
  written = response_bytes provider session content_type opcode status body ++ rest

  pub found_whole : Its asked (header_of provider session content_type opcode status body) → length body ≤ response_content_most
      → found asked written ≡ Some (body_reply (format_for asked.accept_type) asked.opcode status body)
  unfolding found
  found_whole its short =
      let long = response_long provider session content_type opcode status body rest in
      let all = length-append (response_bytes provider session content_type opcode status body) rest in
      rw (
        le-ltb (length written) 6 (omega arith),
        eq-eqb (magic written) magic_number (response_magic provider session content_type opcode status body rest),
        eq-eqb (header_size written) response_header_size (response_size provider session content_type opcode status body rest),
        le-ltb (length written) response_least (omega arith),
      )
      (ap (λ (h : ResponseHeader). found_behind asked h written) (response_back provider session content_type opcode status body rest)
      ∙ behind asked (header_of provider session content_type opcode status body) written (passes asked (header_of provider session content_type opcode status body) refl refl its short) (omega arith)
      ∙ ap (λ (b : List ℕ). Some (body_reply (format_for asked.accept_type) asked.opcode status b)) (response_body provider session content_type opcode status body rest))

-- ---- status 17, whatever was asked

pub invalid_its : (asked : Asked) → Its asked (header_of 0 0 1 0 17 [])
unfolding is_invalid_header type_for
invalid_its asked = (or-true (is_its asked.opcode asked.session (header_of 0 0 1 0 17 [])), refl)

-- ---- the answer to a request

-- the provider is the opcode's, the content type the one that was asked for
pub its_own : (asked : Asked) (provider content_type status : ℕ) (body : List ℕ) → provider ≡ provider_for asked.opcode → eqb status 17 ≡ false
    → content_type ≡ asked.accept_type → Its asked (header_of provider asked.session content_type asked.opcode status body)
unfolding is_its type_for
its_own asked provider content_type status body e other type = (
  rw (eq-eqb asked.opcode asked.opcode refl, eq-eqb asked.session asked.session refl, eq-eqb provider (provider_for asked.opcode) e),
  rw other type,
)

-- a listed accept type is the content type of its format
pub listed_type : (accept_type : ℕ) → one_of content_types accept_type ≡ true → content_type_of (format_for accept_type) ≡ accept_type
unfolding one_of format_for content_type_of
listed_type accept_type h = go (eqb accept_type 2) refl (eqb accept_type 1) refl
  where
    go : (two : Bool) → eqb accept_type 2 ≡ two → (one : Bool) → eqb accept_type 1 ≡ one → content_type_of (format_for accept_type) ≡ accept_type
    go true e one q = rw e (sym (eqb-true _ _ e))
    go false e true q = rw e (sym (eqb-true _ _ q))
    go false e false q = absurd (false≢true (let x : false ≡ true = rw (e, q) at h in x))

-- ---- what can be written in either format

abbrev pub Brief : Message → Type 0
Brief [] = Unit {0}
Brief (number n ∷ m) = (n < 2 ^ 32) × Brief m
Brief (flag b ∷ m) = Brief m
Brief (octets s ∷ m) = (length s < 2 ^ 16) × Brief m
Brief (numbers ns ∷ m) = ((all (λ n. ltb n (2 ^ 32)) ns ≡ true) × (10 * length ns < 2 ^ 16)) × Brief m

pub brief_fits : (f : BodyFormat) (m : Message) → Brief m → AllFit (format_of f) m
brief_fits f [] b = tt
brief_fits Protobuf (number n ∷ m) (h, b) = (h, brief_fits Protobuf m b)
brief_fits Tagged (number n ∷ m) (h, b) = (h, brief_fits Tagged m b)
brief_fits Protobuf (flag x ∷ m) b = (tt, brief_fits Protobuf m b)
brief_fits Tagged (flag x ∷ m) b = (tt, brief_fits Tagged m b)
brief_fits Protobuf (octets s ∷ m) (h, b) = (omega arith, brief_fits Protobuf m b)
brief_fits Tagged (octets s ∷ m) (h, b) = (omega arith, brief_fits Tagged m b)
brief_fits Protobuf (numbers ns ∷ m) ((a, h), b) = ((a, omega arith), brief_fits Protobuf m b)
brief_fits Tagged (numbers ns ∷ m) ((a, h), b) = ((a, omega arith), brief_fits Tagged m b)

-- the output is one that the opcode has with the status, and can be written; the status is not that of a bad start
pub record Sound (opcode : ℕ) (r : Result) : Type 0 where
  pub carries : Carries opcode (status_number r.status) r.output
  pub brief : Brief (message_of r.output)
  pub whole : eqb (status_number r.status) 17 ≡ false

-- its body is read as the result
pub sound_reply : (f : BodyFormat) (opcode : ℕ) (r : Result) → Sound opcode r
    → body_reply f opcode (status_number r.status) (output_bytes (format_of f) r.output) ≡ reply_of r
unfolding body_reply
sound_reply f opcode r s =
    ap (of_output (status_number r.status))
    (answer_back (format_of f) (lawful f) opcode (status_number r.status) r.output s.carries (brief_fits f (message_of r.output) s.brief))
