-- What the code that writes a request leaves in the buffer, by its contract: the request, and it is one that can be heard.
use Rattle.std.proofs.Common.{Option, Some, None, Ok, Err}
use mathlib.Core.Path.{◌≡◌, refl, ap, ap₂, ◌∙◌}
use Prim.Native.Nat.{ℕ}
use mathlib.Core.Bool.{Bool}
use mathlib.Core.List.{List}
use native.Mathlib.Omega.{arith}
use lib.ListN.{length, take, drop}
use lib.Seq.{take-append_seam}
use Rattle.wire.specs.Choice.{first_of}
use Rattle.wire.specs.Lists.{over}
use Rattle.client_requests.specs.Writing.{write_tests, WriteOutcome, write_outcome}
use Rattle.client_requests.specs.declared.WriteRefusal.{WriteRefusal}
use Rattle.client_requests.proofs.JudgeLaws.{passed}
use Rattle.conversation.specs.Conversation.{Ask, written}
use Rattle.conversation.specs.Claims.{Small, Writable, WroteRequest, RequestsWritten}

module _ (ask : Ask) (small : Small ask.operation) (before : List ℕ) where
  abbrev tests : List (Bool × WriteRefusal)
  tests = write_tests before ask.types ask.sender ask.operation

  writable : first_of tests ≡ None → Writable ask.types ask.sender ask.operation
  writable e = let p = passed before ask.types ask.sender ask.operation e in record { types_legal = p.listed; sender_legal = p.legal; fields_legal = p.fields; small = small }

  wrote : (n : ℕ) (out : List ℕ) → record { answer = Ok n; out = out } ≡ write_outcome before ask.session ask.types ask.sender ask.operation → WroteRequest ask n out
  unfolding write_outcome written
  wrote n out e = go (first_of tests) refl
    where
      go : (o : Option WriteRefusal) → first_of tests ≡ o → WroteRequest ask n out
      go (Some refusal) t =
          let q : ◌≡◌ {A = WriteOutcome} (record { answer = Ok n; out = out }) (record { answer = Err refusal; out = before }) = rw (t, write_outcome) at e in
          let a : Ok n ≡ Err refusal = ap (λ (o : WriteOutcome). o.answer) q in
          absurd (let z : ◌≡◌ {A = ℕ} 0 1 = cc in omega arith)
      go None t =
          let b : List ℕ = written ask in
          let q : ◌≡◌ {A = WriteOutcome} (record { answer = Ok n; out = out }) (record { answer = Ok (length b); out = over b before }) = rw (t, write_outcome) at e in
          let a : Ok n ≡ Ok (length b) = ap (λ (o : WriteOutcome). o.answer) q in
          let l : n ≡ length b = cc in
          record {
            bytes = ap₂ (λ (k : ℕ) (x : List ℕ). take k x) l (ap (λ (o : WriteOutcome). o.out) q) ∙ take-append_seam b (drop (length b) before);
            writable = writable t;
          }

pub wrote_request : RequestsWritten
wrote_request ask small before n out e = wrote ask small before n out e
