use Rattle.std.proofs.Common.{Some, None, Result, Ok, Err}
use Prim.Native.Nat.{ℕ, ◌+◌, ◌≤◌}
use mathlib.Core.Path.{◌≡◌, refl, sym, ap, ap₂, subst, ◌∙◌}
use mathlib.Core.List.{List}
use native.Mathlib.Omega.{arith}
use borrow.Author.Rules.{rules}
use lib.ListN.{length, take, drop}
use Rattle.wire.specs.Choice.{first_of}
use Rattle.wire.specs.Numbers.{field}
use Rattle.wire.specs.Response.{response_least}
use Rattle.wire.specs.declared.response.ResponseHeader.{ResponseHeader}
use Rattle.wire.proofs.ListLaws.{length_part}
use Rattle.messages.specs.Formats.{format_for}
use Rattle.client_responses.specs.Reading.{Asked, header_tests, body_reply, found_behind}
use Rattle.client_responses.specs.State.{accept_at, bytes_at, asked_in, response_most, state_size}
use Rattle.client_responses.specs.Handed.{format_in}
use Rattle.client_responses.specs.code.Looked.{body_at, whole, Looked}
use Rattle.client_responses.specs.declared.ReadRefusal.{ReadRefusal}
use Rattle.client_responses.specs.declared.look.Response.{Response}
use Rattle.client_responses.proofs.FoundLaws.{behind_refused, behind_part, behind_whole}
use Rattle.client_responses.proofs.LookLaws.{looked_waiting, looked_refused, looked_as, body_part}
use Rattle.client_responses.proofs.look.look_behind.Goals as goal

accept_is : (m : List ℕ) → (asked_in m).accept_type ≡ field accept_at 1 m
unfolding asked_in
accept_is m = refl

-- so many bytes are held
long : (m : List ℕ) (count : ℕ) → length m ≡ state_size → count ≤ response_most → length (take count (drop bytes_at m)) ≡ count
long m count size few = length_part m bytes_at count (omega arith)

pub returns-in_err-check_header : goal.returns-in_err-check_header
returns-in_err-check_header c =
    let m : List ℕ = c.args.memory.now in
    let refusal = c.in_err-check_header.field-0.0 in
    let e : c.from_residual.result ≡ Err refusal = search rules in
    subst (Looked m _) (sym e) (looked_refused m _ refusal (behind_refused (asked_in m) c.args.h _ refusal (sym (rw c.asked_in-asked.ensures at c.in_err-check_header.ensures))))

pub returns-then-count-content : goal.returns-then-count-content
returns-then-count-content c =
    let m : List ℕ = c.args.memory.now in
    let held : List ℕ = take c.args.count (drop bytes_at m) in
    let l = long m c.args.count c.requires.0 c.requires.1 in
    looked_waiting m _ (behind_part (asked_in m) c.args.h held (sym (rw c.asked_in-asked.ensures at c.in_ok-check_header.ensures)) (omega arith))

-- a whole body
module _ (m : List ℕ) (h : ResponseHeader) (count : ℕ) (asked : Asked) (size : length m ≡ state_size) (few : count ≤ response_most) (asked_is : asked ≡ asked_in m)
    (passed : None ≡ first_of (header_tests asked h)) (there : response_least + h.content_length ≤ count) where
  looked_whole : (r : Result Response ReadRefusal)
      → Looked m (Some (body_reply (format_in m) asked.opcode h.status (take h.content_length (drop body_at m)))) (whole r)
      → Looked m (found_behind (asked_in m) h (take count (drop bytes_at m))) (whole r)
  looked_whole r l =
      let held : List ℕ = take count (drop bytes_at m) in
      let n = long m count size few in
      looked_as m _ _ _ l
      (behind_whole (asked_in m) h held (sym (rw asked_is at passed)) (omega arith)
      ∙ ap Some (ap₂ (λ (o : ℕ) (b : List ℕ). body_reply (format_for (asked_in m).accept_type) o h.status b) (ap (λ (a : Asked). a.opcode) (sym asked_is)) (body_part m count h.content_length there))
      ∙ ap (λ (t : ℕ). Some (body_reply (format_for t) asked.opcode h.status (take h.content_length (drop body_at m)))) (accept_is m))

pub returns-in_err-response : goal.returns-in_err-response
returns-in_err-response c =
    let e : c.from_residual-in_err-response.result ≡ Err c.in_err-response.field-0.0 = search rules in
    subst (Looked c.args.memory.now _) (sym e)
    (looked_whole c.args.memory.now c.args.h c.args.count _ c.requires.0 c.requires.1 c.asked_in-asked.ensures c.in_ok-check_header.ensures (omega arith) (Err c.in_err-response.field-0.0) c.in_err-response.ensures)

pub returns : goal.returns
returns c =
    looked_whole c.args.memory.now c.args.h c.args.count _ c.requires.0 c.requires.1 c.asked_in-asked.ensures c.in_ok-check_header.ensures (omega arith) (Ok c.in_ok-response.response) c.in_ok-response.ensures
