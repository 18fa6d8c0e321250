-- The rules are what the reader of bytes reads, and the first byte of a call on it.
use Rattle.std.proofs.Common.{Option, Some, None}
use mathlib.Core.Path.{◌≡◌, refl, sym, ◌∙◌}
use Prim.Native.Nat.{ℕ, ◌+◌}
use mathlib.Core.List.{List, [], ◌∷◌, ◌++◌, append-nil}
use lib.ListN.{length, length-append}
use Rattle.reading.specs.Reader.{with_event, read}
use Rattle.reading.specs.Call.{call_rule}
use Rattle.reading.proofs.ReaderLaws.{reads_as}
use Rattle.reading.proofs.CallLaws.{one_more, call_event, call_on_lem}
use Rattle.stream.specs.Rules.{Judgement, State, rules}
use Rattle.stream.specs.Call.{byte_rule, reader, fresh, by_rules}
use Rattle.stream.proofs.RulesLaws.{with_response, after, rules_byte, rules_fresh}

with_event_lem : {Out : Type 0} (rs : List Out) (o : Option Out) → with_response rs o ≡ rs ++ with_event o []
unfolding with_response with_event
with_event_lem rs None = sym (append-nil rs)
with_event_lem rs (Some r) = refl

module _ {Reg Count Out : Type 0} (J : Judgement Reg Count Out) where
  -- THE RULES ARE THE READER'S
  pub rules_read : (registry : Reg) → read (reader J) (fresh J registry) ≡ by_rules J registry
  unfolding by_rules read after
  rules_read registry = reads_as (reader J) (fresh J registry) (by_rules J registry)
      (λ i. record { taken = 0; events = (rules_fresh J registry i).responses; kept = (rules_fresh J registry i).state })
      (λ seen b.
      let s : State Reg Count = (rules J registry seen).state in
      (λ i. record {
        taken = length-append seen (b ∷ []) i;
        events = (rules_byte J registry seen b i).responses;
        kept = (rules_byte J registry seen b i).state;
      })
      ∙ (λ i. record { taken = length seen + 1; events = with_event_lem (rules J registry seen).responses (byte_rule J s b).event i; kept = (byte_rule J s b).kept }))

  module _ (s : State Reg Count) (b : ℕ) (chunk : List ℕ) where
    pub call_responds : (r : Out) → (byte_rule J s b).event ≡ Some r
        → call_rule (reader J) s (b ∷ chunk) ≡ record { taken = 1; event = Some r; kept = (byte_rule J s b).kept }
    call_responds r e = call_event (reader J) s b chunk refl r e

    pub call_goes_on : (byte_rule J s b).event ≡ None → call_rule (reader J) s (b ∷ chunk) ≡ one_more (call_rule (reader J) (byte_rule J s b).kept chunk)
    call_goes_on e = call_on_lem (reader J) s b chunk refl e
