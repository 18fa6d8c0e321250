-- What a call on a connection brings, told from the bytes that the connection took since its last response: whatever the
-- judgement may be.
use Rattle.std.proofs.Common.{Option, Some, None}
use mathlib.Core.Path.{◌≡◌, refl, sym, ap, ap₂, ◌∙◌, subst}
use Prim.Native.Nat.{ℕ, ◌+◌, ◌-◌, ◌≤◌, ◌<◌}
use mathlib.Core.Bool.{true, false, true≢false}
use mathlib.Core.List.{List, [], ◌∷◌, ◌++◌, append_assoc}
use native.Mathlib.Omega.{arith}
use native.Mathlib.Decide.{dec_lt}
use lib.ListN.{length, take, drop, length-append, take-append-drop, drop_of_length-le}
use lib.Seq.{take-length, take-append-add, length-take-le}
use Rattle.wire.specs.Request.{request_length}
use Rattle.stream.specs.Frame.{legal_start, Next, unfinished, bad_start, skipped, whole, next}
use Rattle.stream.specs.Rules.{Judgement, Connection, opened, skipping, closed, State, judge, start, finish, rules}
use Rattle.reading.specs.Call.{Effect, call_rule}
use Rattle.stream.specs.Call.{is_beginning, well_formed, reader}
use Rattle.stream.specs.Parts.{and_before, held_parts, closing_parts, parts_of, verdict_on}
use Rattle.stream.proofs.FrameLaws.{legal_start_append, next_short, bad_behind, whole_behind, skipped_stays, skipped_ends, judge_large}
use Rattle.stream.proofs.FramedLaws.{whole_part}
use Rattle.stream.proofs.RulesLaws.{rules_skipped}
use Rattle.stream.proofs.PartsLaws.{parts_unfinished, parts_bad, parts_whole}
use Rattle.stream.proofs.KeptLaws.{rules_connection}
use Rattle.stream.proofs.ChunkLaws.{unfinished_held, bad_found, whole_found, Skip, skip_found, call_closed, call_skips, call_skipped, call_unfinished, call_bad, call_large, call_whole}

-- ---- bytes that are one request

abbrev pub OneRequest : List ℕ → Type 0
OneRequest s = (parts_of s).answered ≡ s ∷ []

one_whole : (s : List ℕ) → legal_start s ≡ true → request_length s ≡ length s → OneRequest s
unfolding and_before held_parts
one_whole s legal long =
    let all : take (request_length s) s ≡ s = ap (λ (n : ℕ). take n s) long ∙ take-length s in
    let none_left : drop (request_length s) s ≡ [] = drop_of_length-le s (let h : length s ≤ request_length s = omega arith in h) in
    rw (parts_whole s legal (let h : request_length s ≤ length s = omega arith in h), none_left, parts_unfinished [] (unfinished_held [] (next_short [] (omega arith))))
    (ap (λ (x : List ℕ). x ∷ []) all)

one_bad : (s : List ℕ) → length s ≡ 6 → legal_start s ≡ false → OneRequest s
unfolding closing_parts
one_bad s six bad =
    rw (parts_bad s (let h : 6 ≤ length s = omega arith in h) bad) (ap (λ (x : List ℕ). x ∷ []) (ap (λ (n : ℕ). take n s) (sym six) ∙ take-length s))

-- ---- how a connection stands that took these bytes since its last response

abbrev pub Stands : Connection → List ℕ → Type 0
Stands (opened held) w = (held ≡ w) × (next w ≡ unfinished)
Stands (skipping header to_go) w = next w ≡ skipped header to_go
Stands closed w = Unit {0}

-- a wrong magic or H closed it
abbrev pub Closes : List ℕ → Connection → Type 0
Closes bytes c = legal_start bytes ≡ false → c ≡ closed

pub stands_fresh : Stands (opened []) []
stands_fresh = (refl, next_short [] (omega arith))

module _ {Reg Count Out : Type 0} (J : Judgement Reg Count Out) where
  pub on_legal : (r : Reg) (c : Count) (bytes : List ℕ) → legal_start bytes ≡ true → verdict_on J r c bytes ≡ judge J r c bytes
  unfolding verdict_on
  on_legal r c bytes e = rw e

  on_bad : (r : Reg) (c : Count) (bytes : List ℕ) → legal_start bytes ≡ false → verdict_on J r c bytes ≡ J.on_bad_start r c
  unfolding verdict_on
  on_bad r c bytes e = rw e

  pub stands_well : Reg → (c : Connection) (w : List ℕ) → Stands c w → well_formed c ≡ true
  unfolding well_formed is_beginning
  stands_well r (opened held) w (e, u) = rw (ap next e ∙ u, is_beginning)
  stands_well r (skipping header to_go) w e =
      subst (λ (c : Connection). well_formed c ≡ true) (skips r header to_go w e) (rules_connection J r w)
    where
      skips : (r : Reg) (header : List ℕ) (to_go : ℕ) (w : List ℕ) → next w ≡ skipped header to_go → (rules J r w).state.connection ≡ skipping header to_go
      skips r header to_go w e = unfold rules finish in ap (λ o. o.state.connection) (rules_skipped J (length w) (start J r) w header to_go e)
  stands_well r closed w e = refl

  -- a response is that of the verdict on all the bytes, one request, and then none are waiting; without one they all are, and
  -- nothing else changed
  abbrev pub Came : State Reg Count → (bytes : List ℕ) → Option Out → State Reg Count → Type 0
  Came s bytes None s' = Stands s'.connection bytes × (s'.registry ≡ s.registry) × (s'.totals.counts ≡ s.totals.counts)
  Came s bytes (Some response) s' =
      Stands s'.connection [] × (verdict_on J s.registry s.totals.counts bytes
      ≡ record { response = response; registry = s'.registry; counts = s'.totals.counts }) × OneRequest bytes × Closes bytes s'.connection

  abbrev Brings : State Reg Count → (w chunk : List ℕ) → Effect (State Reg Count) Out → Type 0
  Brings s w chunk e = Came s (w ++ take e.taken chunk) e.event e.kept

  module _ (s : State Reg Count) (w chunk : List ℕ) where
    all_taken : w ++ chunk ≡ w ++ take (length chunk) chunk
    all_taken = ap (λ (x : List ℕ). w ++ x) (sym (take-length chunk))

    skip_brings : (header : List ℕ) (to_go : ℕ) → s.connection ≡ skipping header to_go → next w ≡ skipped header to_go → Brings s w chunk (call_rule (reader J) s chunk)
    skip_brings header to_go e q = elim (dec_lt (length chunk) to_go) [
      | yes h ↦
          rw (call_skips J s header to_go chunk e h) (
            ap next (sym all_taken) ∙ skipped_stays w chunk k.skipped_is (let missing = k.missing_is in (let x : length chunk < request_length w - length w = omega arith in x))
                ∙ ap₂ skipped (sym k.header_is) (ap (λ (n : ℕ). n - length chunk) (sym k.missing_is)),
            refl,
            refl,
          )
      | no h ↦
          let here : length (take to_go chunk) ≡ to_go = length-take-le to_go chunk (omega arith) in
          let more = k.skipped_is.more in
          let missing = k.missing_is in
          let ended : next (w ++ take to_go chunk) ≡ whole (request_length w) = skipped_ends w (take to_go chunk) k.skipped_is (omega arith) in
          let (legal, size, fits) = whole_found (w ++ take to_go chunk) (request_length w) ended in
          let long : length (w ++ take to_go chunk) ≡ request_length w = length-append w (take to_go chunk) ∙ omega arith in
          rw (call_skipped J s header to_go chunk e (omega arith) (omega arith)) (
            stands_fresh,
            on_legal s.registry s.totals.counts (w ++ take to_go chunk) legal
                ∙ judge_large J s.registry s.totals.counts w (take to_go chunk) k.skipped_is
                ∙ ap (J.on_oversized s.registry s.totals.counts) (sym k.header_is),
            one_whole (w ++ take to_go chunk) legal (size ∙ sym long),
            λ bad. absurd (true≢false (sym legal ∙ bad)),
          )
    ]
      where
        k : Skip w header to_go
        k = skip_found w header to_go q

    module _ (e : s.connection ≡ opened w) (u : next w ≡ unfinished) where
      bad_brings : next (w ++ chunk) ≡ bad_start → Brings s w chunk (call_rule (reader J) s chunk)
      bad_brings n =
          let (six, bad) = bad_found (w ++ chunk) n in
          let few = bad_behind w chunk (unfinished_held w u) bad in
          let all = length-append w chunk in
          let k : ℕ = 6 - length w in
          let p : List ℕ = w ++ take k chunk in
          let here : length (take k chunk) ≡ k = length-take-le k chunk (omega arith) in
          let long : length p ≡ 6 = length-append w (take k chunk) ∙ omega arith in
          let seam : p ++ drop k chunk ≡ w ++ chunk = append_assoc w (take k chunk) (drop k chunk) ∙ ap (λ (x : List ℕ). w ++ x) (take-append-drop k chunk) in
          let l : legal_start p ≡ false = sym (legal_start_append p (drop k chunk) (omega arith)) ∙ ap legal_start seam ∙ bad in
          rw (call_bad J s w chunk e u n) (tt, on_bad s.registry s.totals.counts p l, one_bad p long l, λ _. refl)

      whole_brings : (size : ℕ) → next (w ++ chunk) ≡ whole size → Brings s w chunk (call_rule (reader J) s chunk)
      whole_brings size n =
          let (legal, measured, fits) = whole_found (w ++ chunk) size n in
          let less = whole_behind w chunk (unfinished_held w u) legal in
          let at : length w + (size - length w) ≡ size = omega arith in
          let part : w ++ take (size - length w) chunk ≡ take size (w ++ chunk) = sym (take-append-add w chunk (size - length w)) ∙ ap (λ (k : ℕ). take k (w ++ chunk)) at in
          let there = whole_part (w ++ chunk) size n in
          rw (call_whole J s w chunk e u size n) (
            stands_fresh,
            ap (verdict_on J s.registry s.totals.counts) part
                ∙ on_legal s.registry s.totals.counts (take size (w ++ chunk)) there.legal,
            subst OneRequest (sym part) (one_whole (take size (w ++ chunk)) there.legal (sym there.long)),
            λ bad. absurd (true≢false (sym there.legal ∙ sym (ap legal_start part) ∙ bad)),
          )

      open_brings : Brings s w chunk (call_rule (reader J) s chunk)
      open_brings = go (next (w ++ chunk)) refl
        where
          go : (n : Next) → next (w ++ chunk) ≡ n → Brings s w chunk (call_rule (reader J) s chunk)
          go unfinished n = rw (call_unfinished J s w chunk e u n) ((all_taken, ap next (sym all_taken) ∙ n), refl, refl)
          go bad_start n = bad_brings n
          go (skipped header missing) n = rw (call_large J s w chunk e u header missing n) (ap next (sym all_taken) ∙ n, refl, refl)
          go (whole size) n = whole_brings size n

    pub brings : Stands s.connection w → Brings s w chunk (call_rule (reader J) s chunk)
    brings = go s.connection refl
      where
        go : (c : Connection) → s.connection ≡ c → Stands c w → Brings s w chunk (call_rule (reader J) s chunk)
        go (opened held) e (same, u) = open_brings (e ∙ ap opened same) u
        go (skipping header to_go) e q = skip_brings header to_go e q
        go closed e q = rw (call_closed J s chunk e) (tt, refl, refl)
