-- What holds of every verdict's response holds of every response that a byte or a call brings.
use Rattle.std.proofs.Common.{Option, Some, None}
use mathlib.Core.Path.{◌≡◌, refl, subst}
use Prim.Native.Nat.{ℕ, ◌<◌}
use mathlib.Core.List.{List, [], ◌∷◌, ◌++◌}
use lib.ListN.{length}
use lib.Dec.{leb}
use Rattle.wire.proofs.TestLaws.{either}
use Rattle.reading.specs.Reader.{Step}
use Rattle.reading.specs.Call.{call_rule}
use Rattle.stream.specs.Frame.{Next, unfinished, bad_start, skipped, whole, next}
use Rattle.stream.specs.Rules.{Verdict, Judgement, Connection, opened, skipping, closed, State, judge}
use Rattle.stream.specs.Call.{keep, respond, drop_byte, open_rule, skip_rule, byte_rule, reader}
use Rattle.stream.proofs.CallLaws.{call_responds, call_goes_on}

-- the response, if there is one, has the property
abbrev pub IfSome : {Out : Type 0} (P : Out → Type 0) → Option Out → Type 0
IfSome P None = Unit {0}
IfSome P (Some r) = P r

module _ {Reg Count Out : Type 0} (J : Judgement Reg Count Out) (Good : Reg → Type 0) (P : Out → Type 0) where
  -- a response with the property, and a good registry after it
  pub record Answers (v : Verdict Reg Count Out) : Type 0 where
    pub response : P v.response
    pub registry : Good v.registry

  -- on a good registry every verdict is such
  pub record Every : Type 0 where
    pub bad : (r : Reg) (c : Count) → Good r → Answers (J.on_bad_start r c)
    pub large : (r : Reg) (c : Count) (header : List ℕ) → Good r → Answers (J.on_oversized r c header)
    pub judged : (r : Reg) (c : Count) (request : List ℕ) → Good r → Answers (judge J r c request)

  record Fine (t : Step (State Reg Count) Out) : Type 0 where
    response : IfSome P t.event
    good : Good t.kept.registry

  module _ (every : Every) where
    module _ (s : State Reg Count) (g : Good s.registry) where
      responds : (n : ℕ) (v : Verdict Reg Count Out) (c : Connection) → Answers v → Fine (respond J s n v c)
      unfolding respond
      responds n v c a = record { response = a.response; good = a.registry }

      keeps : (c : Connection) → Fine (keep J s c)
      unfolding keep
      keeps c = record { response = tt; good = g }

      open_fine : (bytes : List ℕ) → Fine (open_rule J s bytes)
      unfolding open_rule
      open_fine bytes = go (next bytes) refl
        where
          go : (n : Next) → next bytes ≡ n → Fine (open_rule J s bytes)
          go unfinished e = rw (e, open_rule) (keeps (opened bytes))
          go bad_start e = rw (e, open_rule) (responds 6 _ closed (every.bad s.registry s.totals.counts g))
          go (skipped header missing) e = rw (e, open_rule) (keeps (skipping header missing))
          go (whole n) e = rw (e, open_rule) (responds n _ (opened []) (every.judged s.registry s.totals.counts bytes g))

      skip_fine : (header : List ℕ) (to_go : ℕ) → Fine (skip_rule J s header to_go)
      unfolding skip_rule
      skip_fine header to_go =
          either Fine (leb to_go 1)
          (λ _. responds _ _ (opened []) (every.large s.registry s.totals.counts header g))
          (λ _. keeps _)

      byte_fine : (byte : ℕ) → Fine (byte_rule J s byte)
      unfolding byte_rule drop_byte
      byte_fine byte = go s.connection refl
        where
          go : (c : Connection) → s.connection ≡ c → Fine (byte_rule J s byte)
          go (opened held) e = rw (e, byte_rule) (open_fine (held ++ (byte ∷ [])))
          go (skipping header to_go) e = rw (e, byte_rule) (skip_fine header to_go)
          go closed e = rw (e, byte_rule) (record { response = tt; good = g })

    pub every_event : (s : State Reg Count) → Good s.registry → (b : ℕ) (r : Out) → (byte_rule J s b).event ≡ Some r → P r
    every_event s g b r e = subst (IfSome P) e (byte_fine s g b).response

    pub call_every : (s : State Reg Count) → Good s.registry → (chunk : List ℕ) → IfSome P (call_rule (reader J) s chunk).event
    unfolding call_rule
    call_every s g [] = tt
    call_every s g (b ∷ chunk) = go (λ t h. call_every t h chunk) (byte_rule J s b).event refl
      where
        fine : Fine (byte_rule J s b)
        fine = byte_fine s g b

        go : ((t : State Reg Count) → Good t.registry → IfSome P (call_rule (reader J) t chunk).event)
            → (o : Option Out) → (byte_rule J s b).event ≡ o → IfSome P (call_rule (reader J) s (b ∷ chunk)).event
        go ih (Some r) e = rw (call_responds J s b chunk r e) (subst (IfSome P) e fine.response)
        go ih None e = rw (call_goes_on J s b chunk e) (ih (byte_rule J s b).kept fine.good)

-- ---- no response is empty

abbrev pub NotEmpty : List ℕ → Type 0
NotEmpty r = 0 < length r

abbrev pub Anything : {A : Type 0} → A → Type 0
Anything a = Unit {0}
