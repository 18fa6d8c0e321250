-- One byte more on the stream: the rules give what the byte rule gives after them.
use Rattle.std.proofs.Common.{Option, Some, None}
use mathlib.Core.Path.{◌≡◌, refl, sym, ap, ap₂, ◌∙◌}
use Prim.Native.Nat.{ℕ, zero, suc, ◌-◌, ◌≤◌, ◌<◌}
use mathlib.Core.Bool.{Bool, true, false}
use mathlib.Core.List.{List, [], ◌∷◌, ◌++◌}
use native.Mathlib.Omega.{arith}
use native.Mathlib.Nat.{le_refl}
use lib.ListN.{length, take, drop, length-drop}
use lib.Seq.{drop-append-le, take-append-le, take-length}
use lib.Dec.{leb}
use borrow.Author.Tests.{leb-true, leb-false, lt-leb, le-leb}
use Rattle.wire.specs.Request.{header_length, request_length}
use Rattle.stream.specs.Frame.{legal_start, unfinished, bad_start, skipped, whole, next}
use Rattle.stream.specs.Rules.{Verdict, Judgement, opened, skipping, closed, Outcome, Progress, answer, finish, judge, rules_within, rules_from, start, rules}
use Rattle.stream.specs.Call.{keep, respond, drop_byte, open_rule, skip_rule, byte_rule, fresh}
use Rattle.stream.proofs.FrameLaws.{Unfinished, Skipped, Shape, is_unfinished, is_bad, is_skipped, is_whole, shape, next_unfinished, next_bad, next_skipped, next_whole, next_short, whole_append, bad_append, length_snoc, whole_last, bad_last, header_length_lem, skipped_stays, skipped_ends, judge_large}

-- responses, and one more if there is one
unfoldable pub with_response : {Out : Type 0} → List Out → Option Out → List Out
with_response rs None = rs
with_response rs (Some r) = rs ++ (r ∷ [])

module _ {Reg Count Out : Type 0} (J : Judgement Reg Count Out) where
  -- ---- the equations of `rules_from`

  module _ (f taken : ℕ) (p : Progress Reg Count Out) (s : List ℕ) where
    within_unfinished : next s ≡ unfinished → rules_within J (suc f) taken p s ≡ finish p taken 0 (opened s)
    unfolding rules_within
    within_unfinished e = rw (e, rules_within)

    within_bad : next s ≡ bad_start
        → rules_within J (suc f) taken p s
        ≡ finish (answer p 6 (J.on_bad_start p.registry p.counts)) taken (length s - 6) closed
    unfolding rules_within
    within_bad e = rw (e, rules_within)

    within_skipped : (header : List ℕ) (missing : ℕ) → next s ≡ skipped header missing
        → rules_within J (suc f) taken p s ≡ finish p taken 0 (skipping header missing)
    unfolding rules_within
    within_skipped header missing e = rw (e, rules_within)

    within_whole : (n : ℕ) → next s ≡ whole n
        → rules_within J (suc f) taken p s
        ≡ rules_within J f taken (answer p n (judge J p.registry p.counts (take n s))) (drop n s)
    unfolding rules_within
    within_whole n e = rw (e, rules_within)

  -- any fuel that is large enough gives the same
  within : (f g taken : ℕ) (p : Progress Reg Count Out) (s : List ℕ) → length s < f → length s < g
      → rules_within J f taken p s ≡ rules_within J g taken p s
  within zero g taken p s hf hg = absurd (omega arith)
  within (suc f) zero taken p s hf hg = absurd (omega arith)
  within (suc f) (suc g) taken p s hf hg =
      go (within f g) (shape s)
    where
      go : ((taken : ℕ) (p : Progress Reg Count Out) (s : List ℕ) → length s < f → length s < g
          → rules_within J f taken p s ≡ rules_within J g taken p s)
          → Shape s → rules_within J (suc f) taken p s ≡ rules_within J (suc g) taken p s
      go ih (is_unfinished u) =
          let e = next_unfinished s u in
          within_unfinished f taken p s e ∙ sym (within_unfinished g taken p s e)
      go ih (is_bad h l) =
          let e = next_bad s h l in
          within_bad f taken p s e ∙ sym (within_bad g taken p s e)
      go ih (is_skipped k) =
          let e = next_skipped s k.legal k.header k.more k.large in
          within_skipped f taken p s _ _ e ∙ sym (within_skipped g taken p s _ _ e)
      go ih (is_whole l m) =
          let e = next_whole s l m in
          let d : length (drop (request_length s) s) ≡ length s - request_length s = length-drop (request_length s) s in
          within_whole f taken p s _ e ∙ ih taken _ _ (omega arith) (omega arith) ∙ sym (within_whole g taken p s _ e)

  module _ (taken : ℕ) (p : Progress Reg Count Out) (s : List ℕ) where
    pub rules_unfinished : next s ≡ unfinished → rules_from J taken p s ≡ finish p taken 0 (opened s)
    unfolding rules_from
    rules_unfinished e = within_unfinished (length s) taken p s e

    pub rules_bad : next s ≡ bad_start
        → rules_from J taken p s
        ≡ finish (answer p 6 (J.on_bad_start p.registry p.counts)) taken (length s - 6) closed
    unfolding rules_from
    rules_bad e = within_bad (length s) taken p s e

    pub rules_skipped : (header : List ℕ) (missing : ℕ) → next s ≡ skipped header missing
        → rules_from J taken p s ≡ finish p taken 0 (skipping header missing)
    unfolding rules_from
    rules_skipped header missing e = within_skipped (length s) taken p s header missing e

    pub rules_whole : (n : ℕ) → next s ≡ whole n → 0 < n → n ≤ length s
        → rules_from J taken p s
        ≡ rules_from J taken (answer p n (judge J p.registry p.counts (take n s))) (drop n s)
    unfolding rules_from
    rules_whole n e h k =
        let d : length (drop n s) ≡ length s - n = length-drop n s in
        within_whole (length s) taken p s n e ∙ within (length s) _ taken _ (drop n s) (omega arith) (omega arith)

  -- ---- one byte more

  -- an outcome, and one more byte
  unfoldable pub after : Outcome Reg Count Out → ℕ → Outcome Reg Count Out
  after o b = record {
    responses = with_response o.responses (byte_rule J o.state b).event;
    state = (byte_rule J o.state b).kept;
  }

  module _ (taken : ℕ) (p : Progress Reg Count Out) (s : List ℕ) (b : ℕ) where
    open_unfinished : next (s ++ (b ∷ [])) ≡ unfinished
        → after (finish p taken 0 (opened s)) b ≡ finish p (suc taken) 0 (opened (s ++ (b ∷ [])))
    unfolding after finish byte_rule open_rule keep with_response
    open_unfinished e = rw (e, open_rule)

    open_skipped : (header : List ℕ) (missing : ℕ) → next (s ++ (b ∷ [])) ≡ skipped header missing
        → after (finish p taken 0 (opened s)) b ≡ finish p (suc taken) 0 (skipping header missing)
    unfolding after finish byte_rule open_rule keep with_response
    open_skipped header missing e = rw (e, open_rule)

    open_bad : next (s ++ (b ∷ [])) ≡ bad_start
        → after (finish p taken 0 (opened s)) b ≡ finish (answer p 6 (J.on_bad_start p.registry p.counts)) (suc taken) 0 closed
    unfolding after finish byte_rule open_rule respond with_response answer
    open_bad e = rw (e, open_rule)

    open_whole : (n : ℕ) → next (s ++ (b ∷ [])) ≡ whole n
        → after (finish p taken 0 (opened s)) b
        ≡ finish (answer p n (judge J p.registry p.counts (s ++ (b ∷ [])))) (suc taken) 0 (opened [])
    unfolding after finish byte_rule open_rule respond with_response answer
    open_whole n e = rw (e, open_rule)

  module _ (taken : ℕ) (p : Progress Reg Count Out) (header : List ℕ) (to_go b : ℕ) where
    skip_more : 1 < to_go → after (finish p taken 0 (skipping header to_go)) b ≡ finish p (suc taken) 0 (skipping header (to_go - 1))
    unfolding after finish byte_rule skip_rule keep with_response
    skip_more h = rw (lt-leb to_go 1 h, skip_rule)

    skip_last : to_go ≤ 1
        → after (finish p taken 0 (skipping header to_go)) b
        ≡ finish (answer p (request_length header) (J.on_oversized p.registry p.counts header)) (suc taken) 0 (opened [])
    unfolding after finish byte_rule skip_rule respond with_response answer
    skip_last h = rw (le-leb to_go 1 h, skip_rule)

  drop_more : (taken dropped : ℕ) (p : Progress Reg Count Out) (b : ℕ)
      → after (finish p taken dropped closed) b ≡ finish p (suc taken) (suc dropped) closed
  unfolding after finish byte_rule drop_byte with_response
  drop_more taken dropped p b = refl

  -- nothing left to read
  rules_nothing : (taken : ℕ) (p : Progress Reg Count Out) (s : List ℕ) → length s ≡ 0 → rules_from J taken p s ≡ finish p taken 0 (opened [])
  rules_nothing taken p [] h = rules_unfinished taken p [] (next_short [] (omega arith))
  rules_nothing taken p (x ∷ s) h = absurd (omega arith)

  -- a request that is whole at the last byte
  rules_ends : (taken : ℕ) (p : Progress Reg Count Out) (s : List ℕ) → next s ≡ whole (length s) → 0 < length s
      → rules_from J taken p s ≡ finish (answer p (length s) (judge J p.registry p.counts s)) taken 0 (opened [])
  rules_ends taken p s e h =
      rules_whole taken p s (length s) e h (le_refl (length s))
      ∙ rules_nothing taken _ (drop (length s) s) (length-drop (length s) s ∙ omega arith)
      ∙ ap (λ (t : List ℕ). finish (answer p (length s) (judge J p.registry p.counts t)) taken 0 (opened [])) (take-length s)

  -- the rules on one byte more are the byte rule after the rules
  abbrev OneMore : ℕ → Type 0
  OneMore f = (taken : ℕ) (p : Progress Reg Count Out) (s : List ℕ) (b : ℕ) → length s < f
      → rules_from J (suc taken) p (s ++ (b ∷ [])) ≡ after (rules_from J taken p s) b

  module _ (taken : ℕ) (p : Progress Reg Count Out) (s : List ℕ) (b : ℕ) where
    one_unfinished : Unfinished s → Shape (s ++ (b ∷ []))
        → rules_from J (suc taken) p (s ++ (b ∷ [])) ≡ after (finish p taken 0 (opened s)) b
    one_unfinished u (is_unfinished v) =
        let e = next_unfinished _ v in
        rules_unfinished (suc taken) p (s ++ (b ∷ [])) e ∙ sym (open_unfinished taken p s b e)
    one_unfinished u (is_bad h l) =
        let e = next_bad _ h l in
        let n = bad_last s b u h l in
        rules_bad (suc taken) p (s ++ (b ∷ [])) e
        ∙ ap (λ (d : ℕ). finish (answer p 6 (J.on_bad_start p.registry p.counts)) (suc taken) d closed) (omega arith)
        ∙ sym (open_bad taken p s b e)
    one_unfinished u (is_skipped k) =
        let e = next_skipped _ k.legal k.header k.more k.large in
        rules_skipped (suc taken) p (s ++ (b ∷ [])) _ _ e ∙ sym (open_skipped taken p s b _ _ e)
    one_unfinished u (is_whole l m) =
        let e = next_whole _ l m ∙ ap whole (whole_last s b u l m) in
        rules_ends (suc taken) p (s ++ (b ∷ [])) e (omega (arith, length_snoc s b)) ∙ sym (open_whole taken p s b _ e)

    one_skipped : (k : Skipped s)
        → rules_from J (suc taken) p (s ++ (b ∷ []))
        ≡ after (finish p taken 0 (skipping (take (header_length s) s) (request_length s - length s))) b
    one_skipped k = go (leb (request_length s - length s) 1) refl
      where
        go : (t : Bool) → leb (request_length s - length s) 1 ≡ t
            → rules_from J (suc taken) p (s ++ (b ∷ []))
            ≡ after (finish p taken 0 (skipping (take (header_length s) s) (request_length s - length s))) b
        go true t =
            let h : request_length s - length s ≤ 1 = leb-true _ _ t in
            let n : request_length s ≡ length (s ++ (b ∷ [])) = omega (arith, length_snoc s b, k.more) in
            let e = skipped_ends s (b ∷ []) k h ∙ ap whole n in
            rules_ends (suc taken) p (s ++ (b ∷ [])) e (omega (arith, length_snoc s b))
            ∙ ap₂ (λ (m : ℕ) (v : Verdict Reg Count Out). finish (answer p m v) (suc taken) 0 (opened [])) (sym n ∙ sym (header_length_lem s k)) (judge_large J _ _ s (b ∷ []) k)
            ∙ sym (skip_last taken p (take (header_length s) s) (request_length s - length s) b h)
        go false t =
            let h = leb-false _ _ t in
            rules_skipped (suc taken) p (s ++ (b ∷ [])) _ _ (skipped_stays s (b ∷ []) k h)
            ∙ sym (skip_more taken p (take (header_length s) s) (request_length s - length s) b h)

    one_bad : 6 ≤ length s → legal_start s ≡ false
        → rules_from J (suc taken) p (s ++ (b ∷ [])) ≡ after (rules_from J taken p s) b
    one_bad h l =
        let n = length_snoc s b in
        rules_bad (suc taken) p (s ++ (b ∷ [])) (bad_append s (b ∷ []) h l)
        ∙ ap (λ (d : ℕ). finish (answer p 6 (J.on_bad_start p.registry p.counts)) (suc taken) d closed) (omega arith)
        ∙ sym (drop_more taken (length s - 6) _ b)
        ∙ ap (λ (o : Outcome Reg Count Out). after o b) (sym (rules_bad taken p s (next_bad s h l)))

    one_whole : (n : ℕ) → next s ≡ whole n → next (s ++ (b ∷ [])) ≡ whole n → 0 < n → n ≤ length s
        → (f : ℕ) → OneMore f → length s ≤ f
        → rules_from J (suc taken) p (s ++ (b ∷ [])) ≡ after (rules_from J taken p s) b
    one_whole n e e' h k f ih hf =
        let d = length-drop n s in
        let w = length_snoc s b in
        let q = answer p n (judge J p.registry p.counts (take n s)) in
        rules_whole (suc taken) p (s ++ (b ∷ [])) n e' h (omega arith)
        ∙ ap₂ (λ (t r : List ℕ). rules_from J (suc taken) (answer p n (judge J p.registry p.counts t)) r)
        (take-append-le n s (b ∷ []) k) (drop-append-le n s (b ∷ []) k)
        ∙ ih taken q (drop n s) b (omega arith)
        ∙ ap (λ (o : Outcome Reg Count Out). after o b) (sym (rules_whole taken p s n e h k))

  one_more : (f : ℕ) → OneMore f
  one_more zero taken p s b h = absurd (omega arith)
  one_more (suc f) taken p s b h = go (one_more f) (shape s)
    where
      go : OneMore f → Shape s → rules_from J (suc taken) p (s ++ (b ∷ [])) ≡ after (rules_from J taken p s) b
      go ih (is_unfinished u) =
          one_unfinished taken p s b u (shape (s ++ (b ∷ [])))
          ∙ ap (λ (o : Outcome Reg Count Out). after o b) (sym (rules_unfinished taken p s (next_unfinished s u)))
      go ih (is_bad x l) = one_bad taken p s b x l
      go ih (is_skipped k) =
          one_skipped taken p s b k
          ∙ ap (λ (o : Outcome Reg Count Out). after o b)
          (sym (rules_skipped taken p s _ _ (next_skipped s k.legal k.header k.more k.large)))
      go ih (is_whole l m) =
          one_whole taken p s b (request_length s) (next_whole s l m) (whole_append s (b ∷ []) l m) (omega arith) m f ih (omega arith)

  -- THE STEP: one more byte on the stream
  pub rules_byte : (registry : Reg) (s : List ℕ) (b : ℕ) → rules J registry (s ++ (b ∷ [])) ≡ after (rules J registry s) b
  unfolding rules
  rules_byte registry s b =
      ap (λ (n : ℕ). rules_from J n (start J registry) (s ++ (b ∷ []))) (length_snoc s b)
      ∙ one_more (suc (length s)) (length s) (start J registry) s b (le_refl (suc (length s)))

  -- nothing read yet
  pub rules_fresh : (registry : Reg) → rules J registry [] ≡ record { responses = []; state = fresh J registry }
  unfolding rules fresh start finish
  rules_fresh registry = rules_unfinished 0 (start J registry) [] (next_short [] (omega arith))
