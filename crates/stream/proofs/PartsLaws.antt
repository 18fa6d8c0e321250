-- The parts of a stream: joined they are the stream, and what the rules count and answer is told by them.
use mathlib.Core.Path.{◌≡◌, refl, sym, ap, ◌∙◌}
use Prim.Native.Nat.{ℕ, zero, suc, ◌+◌, ◌-◌, ◌≤◌, ◌<◌}
use mathlib.Core.Bool.{true, false}
use mathlib.Core.List.{List, [], ◌∷◌, ◌++◌, flatten, append_assoc, append-nil}
use native.Mathlib.Omega.{arith}
use native.Mathlib.Nat.{le_refl}
use lib.ListN.{length, take, drop, length-append, length-drop, take-append-drop}
use lib.Seq.{length-take-le}
use Rattle.wire.specs.Request.{header_length, request_length}
use Rattle.stream.specs.Frame.{legal_start, unfinished, bad_start, skipped, whole, next}
use Rattle.stream.specs.Rules.{Verdict, Judgement, opened, skipping, closed, held_bytes, Outcome, Progress, answer, finish, judge, rules_from, start, rules}
use Rattle.stream.specs.Parts.{Parts, joined, and_before, held_parts, closing_parts, parts_within, parts_of, verdict_on, responses_from, responses_to}
use Rattle.stream.proofs.FrameLaws.{Unfinished, Skipped, Shape, is_unfinished, is_bad, is_skipped, is_whole, shape, next_unfinished, next_bad, next_skipped, next_whole, legal_start_append, header_length_lem}
use Rattle.stream.proofs.RulesLaws.{rules_unfinished, rules_bad, rules_skipped, rules_whole}

-- ---- a property of every stream, from the four ways that one may begin

pub by_frames : (P : List ℕ → Type 0)
    → ((s : List ℕ) → Unfinished s → P s)
    → ((s : List ℕ) → 6 ≤ length s → legal_start s ≡ false → P s)
    → ((s : List ℕ) → Skipped s → P s)
    → ((s : List ℕ) → legal_start s ≡ true → request_length s ≤ length s → P (drop (request_length s) s) → P s)
    → (s : List ℕ) → P s
by_frames P atUnfinished atBad atSkipped atWhole s = go (suc (length s)) s (le_refl (suc (length s)))
  where
    go : (f : ℕ) (s : List ℕ) → length s < f → P s
    go zero s h = absurd (omega arith)
    go (suc f) s h = cases (go f) (shape s)
      where
        cases : ((s : List ℕ) → length s < f → P s) → Shape s → P s
        cases ih (is_unfinished u) = atUnfinished s u
        cases ih (is_bad x l) = atBad s x l
        cases ih (is_skipped k) = atSkipped s k
        cases ih (is_whole l m) =
            let d = length-drop (request_length s) s in
            atWhole s l m (ih (drop (request_length s) s) (omega arith))

-- ---- the equations of `parts_of`

module _ (f : ℕ) (s : List ℕ) where
  within_unfinished : next s ≡ unfinished → parts_within (suc f) s ≡ held_parts s
  unfolding parts_within
  within_unfinished e = rw (e, parts_within)

  within_bad : next s ≡ bad_start → parts_within (suc f) s ≡ closing_parts s
  unfolding parts_within
  within_bad e = rw (e, parts_within)

  within_skipped : (header : List ℕ) (missing : ℕ) → next s ≡ skipped header missing
      → parts_within (suc f) s ≡ held_parts s
  unfolding parts_within
  within_skipped header missing e = rw (e, parts_within)

  within_whole : (n : ℕ) → next s ≡ whole n → parts_within (suc f) s ≡ and_before (take n s) (parts_within f (drop n s))
  unfolding parts_within
  within_whole n e = rw (e, parts_within)

-- any fuel that is large enough gives the same
within : (s : List ℕ) (f g : ℕ) → length s < f → length s < g → parts_within f s ≡ parts_within g s
within = by_frames (λ s. (f g : ℕ) → length s < f → length s < g → parts_within f s ≡ parts_within g s)
    (λ s u. both s (λ f. within_unfinished f s (next_unfinished s u)))
    (λ s h l. both s (λ f. within_bad f s (next_bad s h l)))
    (λ s k. both s (λ f. within_skipped f s _ _ (next_skipped s k.legal k.header k.more k.large)))
    more
  where
    both : (s : List ℕ) {p : Parts} → ((f : ℕ) → parts_within (suc f) s ≡ p)
        → (f g : ℕ) → length s < f → length s < g → parts_within f s ≡ parts_within g s
    both s e zero g hf hg = absurd (omega arith)
    both s e (suc f) zero hf hg = absurd (omega arith)
    both s e (suc f) (suc g) hf hg = e f ∙ sym (e g)

    more : (s : List ℕ) → legal_start s ≡ true → request_length s ≤ length s
        → ((f g : ℕ) → length (drop (request_length s) s) < f → length (drop (request_length s) s) < g
        → parts_within f (drop (request_length s) s) ≡ parts_within g (drop (request_length s) s))
        → (f g : ℕ) → length s < f → length s < g → parts_within f s ≡ parts_within g s
    more s l m ih zero g hf hg = absurd (omega arith)
    more s l m ih (suc f) zero hf hg = absurd (omega arith)
    more s l m ih (suc f) (suc g) hf hg =
        let e = next_whole s l m in
        let d : length (drop (request_length s) s) ≡ length s - request_length s = length-drop (request_length s) s in
        within_whole f s _ e ∙ ap (and_before (take (request_length s) s)) (ih f g (omega arith) (omega arith)) ∙ sym (within_whole g s _ e)

module _ (s : List ℕ) where
  pub parts_unfinished : Unfinished s → parts_of s ≡ held_parts s
  unfolding parts_of
  parts_unfinished u = within_unfinished (length s) s (next_unfinished s u)

  pub parts_bad : 6 ≤ length s → legal_start s ≡ false → parts_of s ≡ closing_parts s
  unfolding parts_of
  parts_bad h l = within_bad (length s) s (next_bad s h l)

  pub parts_skipped : Skipped s → parts_of s ≡ held_parts s
  unfolding parts_of
  parts_skipped k = within_skipped (length s) s _ _ (next_skipped s k.legal k.header k.more k.large)

  pub parts_whole : legal_start s ≡ true → request_length s ≤ length s
      → parts_of s ≡ and_before (take (request_length s) s) (parts_of (drop (request_length s) s))
  unfolding parts_of
  parts_whole l m =
      let d = length-drop (request_length s) s in
      within_whole (length s) s _ (next_whole s l m)
      ∙ ap (and_before (take (request_length s) s)) (within (drop (request_length s) s) (length s) _ (omega arith) (omega arith))

-- ---- every byte stands in one part

joined_more : (s : List ℕ) (n : ℕ) → drop n s ≡ joined (parts_of (drop n s)) → s ≡ joined (and_before (take n s) (parts_of (drop n s)))
unfolding joined and_before flatten
joined_more s n ih =
    let p : Parts = parts_of (drop n s) in
    sym (take-append-drop n s) ∙ ap (λ (x : List ℕ). take n s ++ x) ih
    ∙ sym (append_assoc (take n s) (flatten p.answered) (p.held ++ p.dropped))

pub parts_joined : (s : List ℕ) → s ≡ joined (parts_of s)
unfolding joined flatten held_parts closing_parts
parts_joined = by_frames (λ s. s ≡ joined (parts_of s))
    (λ s u. rw (parts_unfinished s u) (sym (append-nil s)))
    (λ s h l. rw (parts_bad s h l) (sym (ap (λ (x : List ℕ). x ++ drop 6 s) (append-nil (take 6 s)) ∙ take-append-drop 6 s)))
    (λ s k. rw (parts_skipped s k) (sym (append-nil s)))
    (λ s l m ih. rw (parts_whole s l m) (joined_more s (request_length s) ih))

-- ---- what the rules count and answer

-- magic and H of n bytes or more are those of the first n
legal_front : (s : List ℕ) (n : ℕ) → 6 ≤ n → n ≤ length s → legal_start (take n s) ≡ legal_start s
legal_front s n h k =
    let t : length (take n s) ≡ n = length-take-le n s k in
    sym (legal_start_append (take n s) (drop n s) (omega arith)) ∙ ap legal_start (take-append-drop n s)

module _ {Reg Count Out : Type 0} (J : Judgement Reg Count Out) where
  module _ (registry : Reg) (counts : Count) (request : List ℕ) where
    verdict_legal : legal_start request ≡ true → verdict_on J registry counts request ≡ judge J registry counts request
    unfolding verdict_on
    verdict_legal e = rw (e, verdict_on)

    verdict_bad : legal_start request ≡ false → verdict_on J registry counts request ≡ J.on_bad_start registry counts
    unfolding verdict_on
    verdict_bad e = rw (e, verdict_on)

  -- the counts after requests, each judged on what the one before it left
  unfoldable pub counts_from : Reg → Count → (requests : List (List ℕ)) → Count
  counts_from registry counts [] = counts
  counts_from registry counts (request ∷ requests) =
      let v = verdict_on J registry counts request in
      counts_from v.registry v.counts requests

  -- and the registry
  unfoldable pub registry_from : Reg → Count → (requests : List (List ℕ)) → Reg
  registry_from registry counts [] = registry
  registry_from registry counts (request ∷ requests) =
      let v = verdict_on J registry counts request in
      registry_from v.registry v.counts requests

  -- the rules from any progress on, by the parts of the bytes not yet read
  pub record Told (p : Progress Reg Count Out) (parts : Parts) (o : Outcome Reg Count Out) : Type 0 where
    pub responses : o.responses ≡ p.responses ++ responses_from J p.registry p.counts parts.answered
    pub answered : o.state.totals.answered ≡ p.answered + length (flatten parts.answered)
    pub held : held_bytes o.state.connection ≡ length parts.held
    pub dropped : o.state.totals.dropped ≡ length parts.dropped
    pub counts : o.state.totals.counts ≡ counts_from p.registry p.counts parts.answered
    pub registry : o.state.registry ≡ registry_from p.registry p.counts parts.answered

  module _ (taken : ℕ) (p : Progress Reg Count Out) (s : List ℕ) where
    told_unfinished : Told p (held_parts s) (finish p taken 0 (opened s))
    unfolding held_parts finish held_bytes responses_from counts_from registry_from flatten
    told_unfinished = record { responses = sym (append-nil p.responses); answered = omega arith; held = refl; dropped = refl; counts = refl; registry = refl }

    told_skipped : Skipped s
        → Told p (held_parts s) (finish p taken 0 (skipping (take (header_length s) s) (request_length s - length s)))
    unfolding held_parts finish held_bytes responses_from counts_from registry_from flatten
    told_skipped k =
        let h = header_length_lem s k in
        let m : length s < request_length s = k.more in
        record { responses = sym (append-nil p.responses); answered = omega arith; held = omega arith; dropped = refl; counts = refl; registry = refl }

    told_bad : 6 ≤ length s → legal_start s ≡ false
        → Told p (closing_parts s)
        (finish (answer p 6 (J.on_bad_start p.registry p.counts)) taken (length s - 6) closed)
    unfolding closing_parts finish answer held_bytes responses_from counts_from registry_from flatten
    told_bad h l =
        let n : length (take 6 s) ≡ 6 = length-take-le 6 s h in
        let d : length (drop 6 s) ≡ length s - 6 = length-drop 6 s in
        let b = length-append (take 6 s) [] in
        record {
          responses = ap (λ (v : Verdict Reg Count Out). p.responses ++ (v.response ∷ []))
              (sym (verdict_bad p.registry p.counts (take 6 s) (legal_front s 6 (le_refl 6) h ∙ l)));
          answered = omega arith;
          held = refl;
          dropped = sym d;
          counts = ap (λ (v : Verdict Reg Count Out). v.counts)
              (sym (verdict_bad p.registry p.counts (take 6 s) (legal_front s 6 (le_refl 6) h ∙ l)));
          registry = ap (λ (v : Verdict Reg Count Out). v.registry)
              (sym (verdict_bad p.registry p.counts (take 6 s) (legal_front s 6 (le_refl 6) h ∙ l)));
        }

    told_whole : (n : ℕ) → legal_start s ≡ true → 6 ≤ n → n ≤ length s → (rest : Parts) (o : Outcome Reg Count Out)
        → Told (answer p n (judge J p.registry p.counts (take n s))) rest o → Told p (and_before (take n s) rest) o
    unfolding answer and_before responses_from counts_from registry_from flatten
    told_whole n l h k rest o t =
        let v : Verdict Reg Count Out = judge J p.registry p.counts (take n s) in
        let size : length (take n s) ≡ n = length-take-le n s k in
        let b = length-append (take n s) (flatten rest.answered) in
        let a = t.answered in
        record {
          responses = t.responses
              ∙ append_assoc p.responses (v.response ∷ []) (responses_from J v.registry v.counts rest.answered)
              ∙ ap (λ (v : Verdict Reg Count Out). p.responses ++ (v.response ∷ responses_from J v.registry v.counts rest.answered))
              (sym (verdict_legal p.registry p.counts (take n s) (legal_front s n h k ∙ l)));
          answered = omega arith;
          held = t.held;
          dropped = t.dropped;
          counts = t.counts
              ∙ ap (λ (v : Verdict Reg Count Out). counts_from v.registry v.counts rest.answered)
              (sym (verdict_legal p.registry p.counts (take n s) (legal_front s n h k ∙ l)));
          registry = t.registry
              ∙ ap (λ (v : Verdict Reg Count Out). registry_from v.registry v.counts rest.answered)
              (sym (verdict_legal p.registry p.counts (take n s) (legal_front s n h k ∙ l)));
        }

  told : (s : List ℕ) (taken : ℕ) (p : Progress Reg Count Out) → Told p (parts_of s) (rules_from J taken p s)
  told = by_frames (λ s. (taken : ℕ) (p : Progress Reg Count Out) → Told p (parts_of s) (rules_from J taken p s))
      (λ s u taken p. rw (parts_unfinished s u, rules_unfinished J taken p s (next_unfinished s u)) (told_unfinished taken p s))
      (λ s h l taken p. rw (parts_bad s h l, rules_bad J taken p s (next_bad s h l)) (told_bad taken p s h l))
      (λ s k taken p.
      rw (parts_skipped s k, rules_skipped J taken p s _ _ (next_skipped s k.legal k.header k.more k.large)) (told_skipped taken p s k))
      (λ s l m ih taken p.
      rw (parts_whole s l m, rules_whole J taken p s _ (next_whole s l m) (omega arith) m)
      (told_whole taken p s (request_length s) l (omega arith) m _ _ (ih taken _)))

  -- THE ACCOUNT of a stream by the rules
  pub record FromStream (registry : Reg) (stream : List ℕ) (o : Outcome Reg Count Out) : Type 0 where
    -- one response for each answered request, in their order
    pub responses : o.responses ≡ responses_to J registry (parts_of stream).answered
    -- bytes of answered requests, of the unfinished one, and dropped after closing
    pub answered : o.state.totals.answered ≡ length (flatten (parts_of stream).answered)
    pub held : held_bytes o.state.connection ≡ length (parts_of stream).held
    pub dropped : o.state.totals.dropped ≡ length (parts_of stream).dropped
    pub counts : o.state.totals.counts ≡ counts_from registry J.no_counts (parts_of stream).answered

  pub rules_from_stream : (registry : Reg) (stream : List ℕ) → FromStream registry stream (rules J registry stream)
  unfolding rules start responses_to
  rules_from_stream registry stream =
      let t = told stream (length stream) (start J registry) in
      record { responses = t.responses; answered = t.answered ∙ omega arith; held = t.held; dropped = t.dropped; counts = t.counts }

  -- the registry is the one that the answered requests leave
  pub rules_registry : (registry : Reg) (stream : List ℕ)
      → (rules J registry stream).state.registry ≡ registry_from registry J.no_counts (parts_of stream).answered
  unfolding rules start
  rules_registry registry stream = (told stream (length stream) (start J registry)).registry

  one_from : (registry : Reg) (counts : Count) (requests : List (List ℕ)) → length (responses_from J registry counts requests) ≡ length requests
  unfolding responses_from
  one_from registry counts [] = refl
  one_from registry counts (request ∷ requests) =
      let v : Verdict Reg Count Out = verdict_on J registry counts request in
      ap suc (one_from v.registry v.counts requests)

  pub one_each : (registry : Reg) (requests : List (List ℕ)) → length (responses_to J registry requests) ≡ length requests
  unfolding responses_to
  one_each registry requests = one_from registry J.no_counts requests

  -- ---- a judgement that counts each request once

  -- `size` is the number of requests that are counted, and `Room` what it needs of the registry and the counts, and keeps
  pub record CountsEach (size : Count → ℕ) (Room : Reg → Count → Type 0) : Type 0 where
    pub nothing : size J.no_counts ≡ 0
    pub one : (registry : Reg) (counts : Count) (request : List ℕ) → Room registry counts → size (verdict_on J registry counts request).counts ≡ suc (size counts)
    pub room : (registry : Reg) (counts : Count) (request : List ℕ) → Room registry counts
        → Room (verdict_on J registry counts request).registry (verdict_on J registry counts request).counts

  module _ (size : Count → ℕ) (Room : Reg → Count → Type 0) (once : CountsEach size Room) where
    counts_each : (registry : Reg) (counts : Count) (requests : List (List ℕ)) → Room registry counts
        → size (counts_from registry counts requests) ≡ size counts + length requests
    unfolding counts_from
    counts_each registry counts [] room = omega arith
    counts_each registry counts (request ∷ requests) room =
        let v : Verdict Reg Count Out = verdict_on J registry counts request in
        let more = once.one registry counts request room in
        counts_each v.registry v.counts requests (once.room registry counts request room)
        ∙ (let x : size v.counts + length requests ≡ size counts + suc (length requests) = omega arith in x)

    -- every answered request of a stream is counted once
    pub rules_counted : (registry : Reg) → Room registry J.no_counts → (stream : List ℕ)
        → size (rules J registry stream).state.totals.counts ≡ length (parts_of stream).answered
    rules_counted registry room stream =
        ap size (rules_from_stream registry stream).counts
        ∙ counts_each registry J.no_counts (parts_of stream).answered room
        ∙ (let z : size J.no_counts ≡ 0 = once.nothing in omega arith)
