-- A message written is read as itself, in every format that writes a field so that it reads it.
use Rattle.std.proofs.Common.{Option, Some, None, option_and_then}
use Prim.Native.Nat.{ℕ, zero, suc, ◌+◌, ◌-◌, ◌≤◌, ◌<◌}
use native.Mathlib.Omega.{arith}
use mathlib.Core.Path.{◌≡◌, refl, sym, ap, ◌∙◌}
use mathlib.Core.Bool.{true, false}
use mathlib.Core.Logic.{◌⊎◌, inl, inr, ⊎_elim}
use mathlib.Core.List.{List, [], ◌∷◌, ◌++◌, map}
use lib.ListN.{length, drop, length-append, length-drop}
use lib.Seq.{append_snoc, set_at}
use borrow.Author.Tests.{ne_eqb}
use Rattle.wire.specs.Scan.{on, scan_at}
use Rattle.wire.proofs.TestLaws.{either}
use Rattle.wire.proofs.ScanLaws.{TurnAhead, scan_end, scan_on}
use Rattle.protobuf.proofs.RoundTrip.{behind}
use Rattle.messages.specs.Message.{Kind, Value, number, flag, octets, numbers, kind_of, Schema, Message, kind_at, absent}
use Rattle.messages.specs.Format.{Field, field, skipped, unreadable, Format, field_with, listed, fields_from, message_bytes, Fits, AllFit, Reading, read, SoFar, turn_of, turn_at, read_message}

-- ---- a lawful format

-- neither 0, false nor empty
abbrev pub Present : Value → Type 0
Present (number n) = 1 ≤ n
Present (flag b) = b ≡ true
Present (octets s) = 1 ≤ length s
Present (numbers ns) = 1 ≤ length ns

abbrev pub FieldAhead : (at : ℕ) → Field → Type 0
FieldAhead at (field n value next) = at < next
FieldAhead at (skipped next) = at < next
FieldAhead at unreadable = Unit {0}

-- a field that is present is read as itself, wherever it stands and whatever stands behind it
pub record Lawful (format : Format) : Type 0 where
  pub leaves_out : (n : ℕ) (kind : Kind) → format.bytes_of n (absent kind) ≡ []
  pub reads :
      (schema : Schema) (s : List ℕ) (at n : ℕ) (value : Value) (rest : List ℕ) →
      1 ≤ n →
      n < 256 →
      kind_at schema n ≡ Some (kind_of value) →
      Present value →
      Fits format value →
      drop at s ≡ format.bytes_of n value ++ rest →
      format.field_at schema s at ≡ field n value (at + length (format.bytes_of n value))
  pub ahead : (schema : Schema) (s : List ℕ) (at : ℕ) → FieldAhead at (format.field_at schema s at)
  pub ascends : (last n : ℕ) → last < n → format.may_follow last n ≡ true

-- ---- what `listed` gives

pub listed-value :
    (schema : Schema) (n : ℕ) (valueAs : Kind → Option Value) (next : ℕ) (value : Value) →
    kind_at schema n ≡ Some (kind_of value) →
    valueAs (kind_of value) ≡ Some value →
    listed schema n valueAs next ≡ field n value next
unfolding listed
listed-value schema n valueAs next value k v = ap (λ (o : Option Kind). field_with n next (option_and_then valueAs o)) k ∙ ap (field_with n next) v

with_ahead : (at n next : ℕ) (o : Option Value) → at < next → FieldAhead at (field_with n next o)
with_ahead at n next None h = tt
with_ahead at n next (Some value) h = h

pub listed_ahead : (schema : Schema) (at n : ℕ) (valueAs : Kind → Option Value) (next : ℕ) → at < next → FieldAhead at (listed schema n valueAs next)
unfolding listed
listed_ahead schema at n valueAs next h = with_ahead at n next (option_and_then valueAs (kind_at schema n)) h

-- ---- messages

abbrev blank : Value → Value
blank value = absent (kind_of value)

presence : (value : Value) → (value ≡ blank value) ⊎ Present value
presence (number zero) = inl refl
presence (number (suc n)) = inr (omega arith)
presence (flag true) = inr refl
presence (flag false) = inl refl
presence (octets []) = inl refl
presence (octets (b ∷ s)) = inr (omega arith)
presence (numbers []) = inl refl
presence (numbers (n ∷ ns)) = inr (omega arith)

kind_there : (done : Message) (value : Value) (m : Message) → kind_at (map kind_of (done ++ value ∷ m)) (length done + 1) ≡ Some (kind_of value)
kind_there [] value m = refl
kind_there (d ∷ done) value m =
    let no : suc (length done) + 1 ≡ 1 → ⊥ = λ e. omega arith in
    let less : suc (length done) + 1 - 1 ≡ length done + 1 = omega arith in
    rw (ne_eqb _ _ no, less) (kind_there done value m)

turn_of_ahead : (format : Format) (at : ℕ) (so : SoFar) (f : Field) → FieldAhead at f → TurnAhead at (turn_of format at so f)
turn_of_ahead format at so (field n value next) h = either (TurnAhead at) (format.may_follow so.0 n) (λ _. h) (λ _. tt)
turn_of_ahead format at so (skipped next) h = h
turn_of_ahead format at so unreadable h = tt

all_blank : (m : Message) → map absent (map kind_of m) ≡ map blank m
all_blank [] = refl
all_blank (value ∷ m) = ap (λ (r : Message). blank value ∷ r) (all_blank m)

module _ (format : Format) (law : Lawful format) (schema : Schema) (s : List ℕ) where
  abbrev scan : ℕ → SoFar → Reading
  scan at so = scan_at (turn_at format schema s) (λ so. read so.1) (length s) at so

  pub turn_ahead : (at : ℕ) (so : SoFar) → TurnAhead at (turn_at format schema s at so)
  turn_ahead at so = turn_of_ahead format at so (format.field_at schema s at) (law.ahead schema s at)

  ends : (at : ℕ) → drop at s ≡ [] → length s ≤ at
  ends at e = omega (arith, length-drop at s, ap length e)

  -- a field that is present, on top of what is done
  one_field :
      (done : Message) (value : Value) (zeros : Message) (last at : ℕ) (rest : List ℕ) →
      kind_at schema (length done + 1) ≡ Some (kind_of value) →
      last ≤ length done →
      length done + 1 < 256 →
      Present value →
      Fits format value →
      drop at s ≡ format.bytes_of (length done + 1) value ++ rest →
      scan at (last, done ++ blank value ∷ zeros)
      ≡ scan (at + length (format.bytes_of (length done + 1) value)) (length done + 1, done ++ value ∷ zeros)
  one_field done value zeros last at rest k l few p fits e =
      let n : ℕ = length done + 1 in
      let w : List ℕ = format.bytes_of n value in
      let r : format.field_at schema s at ≡ field n value (at + length w) = law.reads schema s at n value rest (omega arith) few k p fits e in
      let a : at < at + length w = rw r at (law.ahead schema s at) in
      let within : at < length s = omega (arith, length-drop at s, length-append w rest, ap length e) in
      let place : length done ≡ n - 1 = omega arith in
      let turn : turn_at format schema s at (last, done ++ blank value ∷ zeros) ≡ on (n, done ++ value ∷ zeros) (at + length w)
      = rw (r, law.ascends last n (omega arith), set_at done (blank value) zeros value (n - 1) place) in
      rw turn at (scan_on (turn_at format schema s) (λ so. read so.1) (length s) turn_ahead at (last, done ++ blank value ∷ zeros) within)

  reads-from :
      (done m : Message) (last at : ℕ) →
      schema ≡ map kind_of (done ++ m) →
      last ≤ length done →
      length done + length m < 256 →
      AllFit format m →
      drop at s ≡ fields_from format (length done + 1) m →
      scan at (last, done ++ map blank m) ≡ read (done ++ m)
  reads-from done [] last at k l few fits e = scan_end (turn_at format schema s) (λ so. read so.1) (length s) at (last, done ++ []) (ends at e)
  reads-from done (value ∷ m) last at k l few fits e =
      let n : ℕ = length done + 1 in
      let w : List ℕ = format.bytes_of n value in
      let rest : List ℕ = fields_from format (n + 1) m in
      let done' : Message = done ++ (value ∷ []) in
      let long : length done' ≡ length done + 1 = length-append done (value ∷ []) in
      let k' : schema ≡ map kind_of (done' ++ m) = rw append_snoc k in
      let there : kind_at schema n ≡ Some (kind_of value) = rw k (kind_there done value m) in
      let next : (last' at' : ℕ) → last' ≤ length done' → drop at' s ≡ rest → scan at' (last', done ++ value ∷ map blank m) ≡ read (done ++ value ∷ m)
      = λ last' at' l' e'.
      rw (append_snoc, append_snoc) at (reads-from done' m last' at' k' l' (omega arith) fits.1 (rw long e')) in
      ⊎_elim
      (λ z.
      let none' : w ≡ [] = ap (format.bytes_of n) z ∙ law.leaves_out n (kind_of value) in
      rw (sym z) (next last at (omega arith) (rw none' at e)))
      (λ p.
      one_field done value (map blank m) last at rest there l (omega arith) p fits.0 e
      ∙ next n (at + length w) (omega arith) (behind s at w rest e))
      (presence value)

pub round_trip :
    (format : Format) → Lawful format → (m : Message) → length m < 256 → AllFit format m
    → read_message format (map kind_of m) (message_bytes format m) ≡ read m
unfolding read_message message_bytes
round_trip format law m few fits = rw all_blank (reads-from format law (map kind_of m) (fields_from format 1 m) [] m 0 0 refl (omega arith) (omega arith) fits refl)
