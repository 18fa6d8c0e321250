-- Laws of a call: the bytes of the chunk that it takes on, a run at a time, and what it then comes to.
use Rattle.std.proofs.Common.{Option, Some, None, Result, Ok, Err, is_some}
use mathlib.Core.Path.{◌≡◌, refl, sym, ap, ap₂, subst, ◌∙◌}
use Prim.Native.Nat.{ℕ, zero, suc, ◌+◌, ◌≤◌, ◌<◌}
use mathlib.Core.Bool.{true, false, true≢false, false≢true}
use mathlib.Core.List.{List, [], ◌∷◌, ◌++◌, append_assoc, append-nil}
use native.Mathlib.Omega.{arith}
use native.Mathlib.Decide.{dec_lt}
use lib.ListN.{length, take, drop, get_or, length-append, length-drop}
use lib.Seq.{take-suc, take-add, length-take-le}
use Rattle.wire.specs.Lists.{all}
use Rattle.wire.proofs.NumberLaws.{is_byte}
use Rattle.wire.proofs.TestLaws.{some≢none}
use Rattle.reading.specs.Reader.{Reader}
use Rattle.reading.specs.Call.{Effect, call_rule}
use Rattle.reading.specs.Calls.{Call, CallOutcome, took, refused, call_on}
use Rattle.reading.proofs.CallLaws.{Passed, pass_none, pass_run, stop_byte, stop_all, call_past}
use Rattle.client_responses.specs.Reading.{Asked, Reply, found, response_reader}
use Rattle.client_responses.specs.State.{response_most, state_size, state_bytes, asked_in, bytes_in, layout, well_formed_state, ill_formed, waiting, said_of, ReadOutcome, refusal, read_outcome}
use Rattle.client_responses.specs.Handed.{said_in, handed}
use Rattle.client_responses.specs.code.Looked.{is_waiting, said_as, answered_as, Looked, Holding, Filled}
use Rattle.client_responses.specs.declared.ReadRefusal.{ReadRefusal}
use Rattle.client_responses.specs.declared.look.Response.{Response}
use Rattle.client_responses.proofs.StateLaws.{Listed, asked_back, held_back, size_there, well_there, Well, well, memory_is}
use Rattle.client_responses.proofs.FoundLaws.{wanted}

-- ---- what is said

pub none_awaited : (r : Result (Option Response) ReadRefusal) → is_waiting r ≡ true → r ≡ Ok None
none_awaited (Ok None) e = refl
none_awaited (Ok (Some x)) e = absurd (false≢true e)
none_awaited (Err x) e = absurd (false≢true e)

pub some_told : (r : Result (Option Response) ReadRefusal) → is_waiting r ≡ false → r ≡ Ok None → ⊥
some_told r e w = true≢false (ap is_waiting (sym w) ∙ e)

waits : (m : List ℕ) (r : Result (Option Response) ReadRefusal) → said_in m (said_as r) ≡ waiting → r ≡ Ok None
waits m (Ok None) e = refl
waits m (Ok (Some x)) e = absurd (let z : ◌≡◌ {A = ℕ} 0 1 = cc in omega arith)
waits m (Err x) e = absurd (let z : ◌≡◌ {A = ℕ} 0 1 = cc in omega arith)

none_of : (o : Option Reply) → waiting ≡ said_of o → o ≡ None
none_of None e = refl
none_of (Some x) e = absurd (let z : ◌≡◌ {A = ℕ} 0 1 = cc in omega arith)

module _ {m : List ℕ} {o : Option Reply} {r : Result (Option Response) ReadRefusal} (l : Looked m o r) where
  pub told_waiting : r ≡ Ok None → o ≡ None
  told_waiting e = none_of o (ap (λ (x : Result (Option Response) ReadRefusal). said_in m (said_as x)) (sym e) ∙ l.said_is)

  pub told_none : o ≡ None → r ≡ Ok None
  told_none e = waits m r (l.said_is ∙ ap said_of e)

-- ---- a state that holds the beginning of a response

pub holding_of : (asked : Asked) (held memory : List ℕ) → memory ≡ state_bytes asked held → Listed asked → found asked held ≡ None → Holding memory
holding_of asked held memory e listed none' =
    let w = wanted asked held none' in
    let more = w.more in
    let few = w.few in
    let a : asked_in memory ≡ asked = ap asked_in e ∙ asked_back asked held in
    let b : bytes_in memory ≡ held = ap bytes_in e ∙ held_back asked held in
    record {
      well = ap well_formed_state e ∙ well_there asked held (omega arith) listed;
      memory_is = e ∙ ap₂ state_bytes (sym a) (sym b);
      begun = ap₂ found a b ∙ none';
    }

-- ---- what a call comes to

module _ (m chunk : List ℕ) where
  abbrev asked : Asked
  asked = asked_in m

  abbrev call : Call (Unit {0})
  call = record { chunk = chunk; lent = tt }

  abbrev of_call : CallOutcome (List ℕ) (Unit {0}) (Option Reply) → ReadOutcome
  of_call o = elim o.answer.refusal [
    | Some code ↦ record { said = ill_formed; taken = 0; memory = m }
    | None ↦ record { said = said_of (found asked (bytes_in o.memory)); taken = o.answer.taken; memory = o.memory }
  ]

  by_call : read_outcome m chunk ≡ of_call (call_on (response_reader asked) (layout asked) refusal m call)
  unfolding read_outcome
  by_call = refl

  refuses : well_formed_state m ≡ false → call_on (response_reader asked) (layout asked) refusal m call ≡ record { answer = refused (layout asked) tt call; memory = m }
  unfolding call_on refusal
  refuses w = rw (w, call_on)

  abbrev effect : Effect (List ℕ) Reply
  effect = call_rule (response_reader asked) (bytes_in m) chunk

  takes : well_formed_state m ≡ true
      → call_on (response_reader asked) (layout asked) refusal m call
      ≡ record { answer = took (layout asked) effect.taken effect.event call; memory = state_bytes asked effect.kept }
  unfolding call_on refusal layout
  takes w = rw (w, call_on)

  pub outcome_refused : well_formed_state m ≡ false → read_outcome m chunk ≡ record { said = ill_formed; taken = 0; memory = m }
  outcome_refused w = by_call ∙ ap of_call (refuses w)

  pub outcome : well_formed_state m ≡ true → (n : ℕ) (kept : List ℕ) → effect.taken ≡ n → effect.kept ≡ kept
      → read_outcome m chunk ≡ record { said = said_of (found asked kept); taken = n; memory = state_bytes asked kept }
  outcome w n kept t k =
      by_call ∙ ap of_call (takes w)
      ∙ (λ i. record {
        said = (ap (λ (x : List ℕ). said_of (found asked (bytes_in (state_bytes asked x)))) k ∙ ap (λ (x : List ℕ). said_of (found asked x)) (held_back asked kept)) i;
        taken = t i;
        memory = state_bytes asked (k i);
      })

  -- bytes that a response or a refusal was read from: nothing is taken, and the same is said again
  pub outcome_past : Well m → well_formed_state m ≡ true → all is_byte m ≡ true → (r : Result (Option Response) ReadRefusal) → Looked m (found asked (bytes_in m)) r → (r ≡ Ok None → ⊥)
      → handed m (answered_as r 0) ≡ read_outcome m chunk
  unfolding response_reader
  outcome_past w g bytes r l other = go (found asked (bytes_in m)) refl
    where
      go : (o : Option Reply) → found asked (bytes_in m) ≡ o → handed m (answered_as r 0) ≡ read_outcome m chunk
      go None e = absurd (other (told_none l e))
      go (Some v) e =
          let past = call_past (response_reader asked) (bytes_in m) chunk (ap is_some e) in
          (λ i. record { said = l.said_is i; taken = 0; memory = memory_is m w bytes i })
          ∙ sym (outcome g 0 (bytes_in m) (ap (λ (x : Effect (List ℕ) Reply). x.taken) past) (ap (λ (x : Effect (List ℕ) Reply). x.kept) past))

-- ---- bytes of the chunk behind those held

module _ (asked : Asked) (held chunk : List ℕ) where
  abbrev R : Reader (List ℕ) Reply
  R = response_reader asked

  abbrev kept : ℕ → List ℕ
  kept n = held ++ take n chunk

  kept_byte : (n : ℕ) → n < length chunk → kept n ++ (get_or chunk n 0 ∷ []) ≡ kept (suc n)
  kept_byte n h = append_assoc held (take n chunk) (get_or chunk n 0 ∷ []) ∙ ap (λ (l : List ℕ). held ++ l) (sym (take-suc chunk n 0 h))

  kept_more : (n k : ℕ) → kept n ++ take k (drop n chunk) ≡ kept (n + k)
  kept_more n k = append_assoc held (take n chunk) (take k (drop n chunk)) ∙ ap (λ (l : List ℕ). held ++ l) (sym (take-add n k chunk))

  kept_long : (n : ℕ) → n ≤ length chunk → length (kept n) ≡ length held + n
  kept_long n h = length-append held (take n chunk) ∙ ap (λ (k : ℕ). length held + k) (length-take-le n chunk h)

  going : (n : ℕ) → found asked (kept n) ≡ None → R.ended (kept n) ≡ false
  unfolding response_reader
  going n e = ap is_some e

  byte_brings : (n : ℕ) (o : Option Reply) → n < length chunk → found asked (kept (suc n)) ≡ o → R.byte (kept n) (get_or chunk n 0) ≡ record { kept = kept (suc n); event = o }
  unfolding response_reader
  byte_brings n o h e = λ i. record { kept = kept_byte n h i; event = (ap (found asked) (kept_byte n h) ∙ e) i }

  -- `used` bytes are taken on, and more are wanted
  pub record Part (memory : List ℕ) (used : ℕ) : Type 0 where
    pub left : used ≤ length chunk
    pub memory_is : memory ≡ state_bytes asked (kept used)
    pub begun : found asked (kept used) ≡ None
    pub passed : Passed R held chunk used (kept used)

  pub part_none : (memory : List ℕ) → memory ≡ state_bytes asked held → found asked held ≡ None → Part memory 0
  part_none memory e b =
      let same : held ≡ kept 0 = sym (append-nil held) in
      record {
        left = omega arith;
        memory_is = e ∙ ap (state_bytes asked) same;
        begun = ap (found asked) (sym same) ∙ b;
        passed = subst (Passed R held chunk 0) same (pass_none R held chunk);
      }

  module _ (listed : Listed asked) (memory : List ℕ) (used : ℕ) (p : Part memory used) where
    pub part_holds : Holding memory
    part_holds = holding_of asked (kept used) memory p.memory_is listed p.begun

    part_asked : asked_in memory ≡ asked
    part_asked = ap asked_in p.memory_is ∙ asked_back asked (kept used)

    part_bytes : bytes_in memory ≡ kept used
    part_bytes = ap bytes_in p.memory_is ∙ held_back asked (kept used)

    -- k bytes more
    module _ (after : List ℕ) (k : ℕ) (f : Filled memory (drop used chunk) after k) where
      left_is : used + k ≤ length chunk
      left_is = omega (arith, f.left, p.left, length-drop used chunk)

      after_is : after ≡ state_bytes asked (kept (used + k))
      after_is = f.after_is ∙ ap₂ state_bytes part_asked (ap (λ (l : List ℕ). l ++ take k (drop used chunk)) part_bytes ∙ kept_more used k)

      after_few : length (kept (used + k)) ≤ response_most
      after_few =
          let few : length (kept used) + k ≤ response_most = subst (λ (l : List ℕ). length l + k ≤ response_most) part_bytes f.few in
          let l = kept_long used p.left in
          let l' = kept_long (used + k) left_is in
          omega arith

      pub after_well : well_formed_state after ≡ true
      after_well = ap well_formed_state after_is ∙ well_there asked (kept (used + k)) after_few listed

      pub after_size : length after ≡ state_size
      after_size = ap length after_is ∙ size_there asked (kept (used + k)) after_few

      -- what is said of them
      module _ (r : Result (Option Response) ReadRefusal) (l : Looked after (found (asked_in after) (bytes_in after)) r) where
        after_asked : asked_in after ≡ asked
        after_asked = ap asked_in after_is ∙ asked_back asked (kept (used + k))

        after_bytes : bytes_in after ≡ kept (used + k)
        after_bytes = ap bytes_in after_is ∙ held_back asked (kept (used + k))

        looked : Looked after (found asked (kept (used + k))) r
        looked = record { said_is = l.said_is ∙ ap said_of (ap₂ found after_asked after_bytes); within = l.within }

        none_before : (j : ℕ) → j < k → found asked (kept (used + j)) ≡ None
        none_before j h =
            ap (found asked) (sym (kept_more used j))
            ∙ sym (ap₂ (λ (a : Asked) (l : List ℕ). found a (l ++ take j (drop used chunk))) part_asked part_bytes)
            ∙ f.nothing_before j h

        module _ (j : ℕ) (h : j ≤ k) (e : found asked (kept (used + j)) ≡ None) where
          nones : (i : ℕ) → i ≤ j → found asked (kept (used + i)) ≡ None
          nones i g = elim (dec_lt i k) [
            | yes q ↦ none_before i q
            | no q ↦ subst (λ (n : ℕ). found asked (kept (used + n)) ≡ None) (let x : j ≡ i = omega arith in x) e
          ]

          passes : Passed R held chunk (used + j) (kept (used + j))
          passes =
              let fits = left_is in
              pass_run R (λ i. kept (used + i))
              (subst (λ (n : ℕ). Passed R held chunk used (kept n)) (let x : used ≡ used + 0 = omega arith in x) p.passed)
              j (omega arith) (λ i g. going (used + i) (nones i (omega arith)))
              (λ i g.
              let next : suc (used + i) ≡ used + suc i = omega arith in
              subst (λ (n : ℕ). R.byte (kept (used + i)) (get_or chunk (used + i) 0) ≡ record { kept = kept n; event = None }) next
              (byte_brings (used + i) None (omega arith) (subst (λ (n : ℕ). found asked (kept n) ≡ None) (sym next) (nones (suc i) (omega arith)))))

        pub part_again : r ≡ Ok None → Part after (used + k)
        part_again e =
            let none' = told_waiting looked e in
            record { left = left_is; memory_is = after_is; begun = none'; passed = passes k (omega arith) none' }

        -- so many bytes are taken, and they are kept
        record Stop : Type 0 where
          taken : (call_rule R held chunk).taken ≡ used + k
          kept_is : (call_rule R held chunk).kept ≡ kept (used + k)

        stop : (r ≡ Ok None → length chunk ≤ used + k) → Stop
        stop all' = go (found asked (kept (used + k))) refl
          where
            stops_with : (o : Option Reply) → call_rule R held chunk ≡ record { taken = used + k; event = o; kept = kept (used + k) } → Stop
            stops_with o e = record { taken = ap (λ (x : Effect (List ℕ) Reply). x.taken) e; kept_is = ap (λ (x : Effect (List ℕ) Reply). x.kept) e }

            last : (v : Reply) (j : ℕ) → k ≡ suc j → found asked (kept (used + k)) ≡ Some v → Stop
            last v j e q =
                let fits = left_is in
                let none' = none_before j (omega arith) in
                let next : used + k ≡ suc (used + j) = omega arith in
                let one : used + j + 1 ≡ used + k = omega arith in
                stops_with (Some v)
                (stop_byte R (passes j (omega arith) none') (omega arith) (going (used + j) none') (kept (suc (used + j))) v
                (byte_brings (used + j) (Some v) (omega arith) (subst (λ (n : ℕ). found asked (kept n) ≡ Some v) next q))
                ∙ (λ i. record { taken = one i; event = Some v; kept = kept (sym next i) }))

            go : (o : Option Reply) → found asked (kept (used + k)) ≡ o → Stop
            go None e = stops_with None (stop_all R (passes k (omega arith) e) (all' (told_none looked e)))
            go (Some v) e = step k refl
              where
                step : (n : ℕ) → k ≡ n → Stop
                step zero z =
                    absurd (some≢none v (sym e ∙ subst (λ (n : ℕ). found asked (kept n) ≡ None) (let x : used ≡ used + k = omega arith in x) p.begun))
                step (suc j) z = last v j z e

-- ---- a call that takes bytes on, from its first byte to where it stops

module _ (m chunk : List ℕ) (w : well_formed_state m ≡ true) where
  abbrev Begin : (memory : List ℕ) (used : ℕ) → Type 0
  Begin memory used = Part (asked_in m) (bytes_in m) chunk memory used

  module _ (memory : List ℕ) (used : ℕ) (p : Begin memory used) (after : List ℕ) (k : ℕ) (f : Filled memory (drop used chunk) after k)
      (r : Result (Option Response) ReadRefusal) (l : Looked after (found (asked_in after) (bytes_in after)) r) where
    pub part_stops : (r ≡ Ok None → length chunk ≤ used + k) → handed after (answered_as r (used + k)) ≡ read_outcome m chunk
    part_stops all' =
        let listed = (well m w).listed in
        let s = stop (asked_in m) (bytes_in m) chunk listed memory used p after k f r l all' in
        (λ i. record {
          said = (looked (asked_in m) (bytes_in m) chunk listed memory used p after k f r l).said_is i;
          taken = used + k;
          memory = after_is (asked_in m) (bytes_in m) chunk listed memory used p after k f i;
        })
        ∙ sym (outcome m chunk w (used + k) (bytes_in m ++ take (used + k) chunk) s.taken s.kept_is)
