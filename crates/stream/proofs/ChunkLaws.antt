-- What one call does, in one go: `call_rule` is told byte by byte, and here it is told for the whole chunk.
use Rattle.std.proofs.Common.{Option, Some, None}
use mathlib.Core.Path.{◌≡◌, refl, sym, ap, ap₂, ◌∙◌}
use Prim.Native.Nat.{ℕ, suc, ◌+◌, ◌-◌, ◌≤◌, ◌<◌}
use mathlib.Core.Bool.{Bool, true, false, true≢false, ◌&&◌}
use mathlib.Core.List.{List, [], ◌∷◌, ◌++◌, append_assoc, append-nil}
use native.Mathlib.Omega.{arith}
use lib.ListN.{length, take}
use lib.Seq.{take-append-le, take-append-add, take-length}
use lib.Dec.{leb, eqb}
use borrow.Author.Tests.{leb-true, leb-false, lt-leb, le-leb, eqb-true}
use Rattle.wire.specs.Request.{content_length, auth_length, header_length, request_length}
use Rattle.wire.proofs.TestLaws.{and_left, and_right}
use Rattle.reading.specs.Reader.{Step}
use Rattle.reading.specs.Call.{Effect, call_rule}
use Rattle.stream.specs.Frame.{legal_start, oversized, Next, unfinished, bad_start, skipped, whole, next}
use Rattle.stream.specs.Rules.{Verdict, Judgement, Connection, opened, skipping, closed, State, judge}
use Rattle.stream.specs.code.Effects.{waiting, answering, dropping}
use Rattle.stream.specs.Call.{is_beginning, well_formed, keep, respond, drop_byte, open_rule, skip_rule, byte_rule, reader}
use Rattle.stream.proofs.FrameLaws.{Unfinished, Skipped, Shape, is_unfinished, is_bad, is_skipped, is_whole, shape, next_unfinished, next_bad, next_skipped, next_whole, legal_size, whole_append, bad_append, bad_behind, whole_behind, length_snoc, whole_last, bad_last, header_length_lem, skipped_stays, skipped_ends, judge_large}
use Rattle.stream.proofs.CallLaws.{call_responds, call_goes_on}

-- ---- what `next` tells, turned round

pub unfinished_held : (s : List ℕ) → next s ≡ unfinished → Unfinished s
unfinished_held s e = go (shape s)
  where
    go : Shape s → Unfinished s
    go (is_unfinished u) = u
    go (is_bad h l) = absurd (let n = next_bad s h l in let z : ◌≡◌ {A = ℕ} 0 1 = cc in omega arith)
    go (is_skipped k) = absurd (let n = next_skipped s k.legal k.header k.more k.large in let z : ◌≡◌ {A = ℕ} 0 1 = cc in omega arith)
    go (is_whole l m) = absurd (let n = next_whole s l m in let z : ◌≡◌ {A = ℕ} 0 1 = cc in omega arith)

pub bad_found : (s : List ℕ) → next s ≡ bad_start → (6 ≤ length s) × (legal_start s ≡ false)
bad_found s e = go (shape s)
  where
    go : Shape s → (6 ≤ length s) × (legal_start s ≡ false)
    go (is_unfinished u) = absurd (let n = next_unfinished s u in let z : ◌≡◌ {A = ℕ} 0 1 = cc in omega arith)
    go (is_bad h l) = (h, l)
    go (is_skipped k) = absurd (let n = next_skipped s k.legal k.header k.more k.large in let z : ◌≡◌ {A = ℕ} 0 1 = cc in omega arith)
    go (is_whole l m) = absurd (let n = next_whole s l m in let z : ◌≡◌ {A = ℕ} 0 1 = cc in omega arith)

pub whole_found : (s : List ℕ) (size : ℕ) → next s ≡ whole size
    → (legal_start s ≡ true) × (request_length s ≡ size) × (size ≤ length s)
whole_found s size e = go (shape s)
  where
    go : Shape s → (legal_start s ≡ true) × (request_length s ≡ size) × (size ≤ length s)
    go (is_unfinished u) = absurd (let n = next_unfinished s u in let z : ◌≡◌ {A = ℕ} 0 1 = cc in omega arith)
    go (is_bad h l) = absurd (let n = next_bad s h l in let z : ◌≡◌ {A = ℕ} 0 1 = cc in omega arith)
    go (is_skipped k) = absurd (let n = next_skipped s k.legal k.header k.more k.large in let z : ◌≡◌ {A = ℕ} 0 1 = cc in omega arith)
    go (is_whole l m) =
        let same = next_whole s l m in
        let n : request_length s ≡ size = cc in
        (l, n, omega arith)

-- a request to skip that has begun
pub record Skip (s header : List ℕ) (missing : ℕ) : Type 0 where
  pub header_is : header ≡ take (header_length s) s
  pub missing_is : missing ≡ request_length s - length s
  pub skipped_is : Skipped s

pub skip_found : (s h : List ℕ) (m : ℕ) → next s ≡ skipped h m → Skip s h m
skip_found s h m e = go (shape s)
  where
    go : Shape s → Skip s h m
    go (is_unfinished u) = absurd (let n = next_unfinished s u in let z : ◌≡◌ {A = ℕ} 0 1 = cc in omega arith)
    go (is_bad q l) = absurd (let n = next_bad s q l in let z : ◌≡◌ {A = ℕ} 0 1 = cc in omega arith)
    go (is_skipped k) =
        let same = next_skipped s k.legal k.header k.more k.large in
        record { header_is = cc; missing_is = cc; skipped_is = k }
    go (is_whole l m) = absurd (let n = next_whole s l m in let z : ◌≡◌ {A = ℕ} 0 1 = cc in omega arith)

pub unfinished_next : (s : List ℕ) → is_beginning s ≡ true → next s ≡ unfinished
unfolding is_beginning
unfinished_next s e = go (next s) refl
  where
    go : (n : Next) → next s ≡ n → n ≡ unfinished
    go unfinished q = refl
    go bad_start q = absurd (true≢false (rw (q, is_beginning) at (sym e)))
    go (skipped header missing) q = absurd (true≢false (rw (q, is_beginning) at (sym e)))
    go (whole size) q = absurd (true≢false (rw (q, is_beginning) at (sym e)))

-- ---- effects, field by field

module _ {Reg Count Out : Type 0} where
  abbrev effect_of : ℕ → Option Out → Connection → Reg → (taken answered dropped : ℕ) → Count → Effect (State Reg Count) Out
  effect_of n response connection registry taken answered dropped counts = record {
    taken = n;
    event = response;
    kept = record {
      connection = connection;
      registry = registry;
      totals = record { taken = taken; answered = answered; dropped = dropped; counts = counts };
    };
  }

  -- one byte before
  abbrev later : Effect (State Reg Count) Out → Effect (State Reg Count) Out
  later e = record { taken = suc e.taken; event = e.event; kept = e.kept }

module _ {Reg Count Out : Type 0} (J : Judgement Reg Count Out) where
  -- ---- one byte

  module _ (s : State Reg Count) (b : ℕ) where
    byte_closed : s.connection ≡ closed → byte_rule J s b ≡ drop_byte J s
    unfolding byte_rule drop_byte
    byte_closed e = rw (e, byte_rule)

    byte_skips : (header : List ℕ) (to_go : ℕ) → s.connection ≡ skipping header to_go → 1 < to_go
        → byte_rule J s b ≡ keep J s (skipping header (to_go - 1))
    unfolding byte_rule skip_rule keep respond
    byte_skips header to_go e h = rw (e, byte_rule, lt-leb to_go 1 h, skip_rule)

    byte_ends : (header : List ℕ) (to_go : ℕ) → s.connection ≡ skipping header to_go → to_go ≤ 1
        → byte_rule J s b ≡ respond J s (request_length header) (J.on_oversized s.registry s.totals.counts header) (opened [])
    unfolding byte_rule skip_rule keep respond
    byte_ends header to_go e h = rw (e, byte_rule, le-leb to_go 1 h, skip_rule)

    module _ (held : List ℕ) (e : s.connection ≡ opened held) where
      byte_unfinished : next (held ++ (b ∷ [])) ≡ unfinished → byte_rule J s b ≡ keep J s (opened (held ++ (b ∷ [])))
      unfolding byte_rule open_rule keep respond
      byte_unfinished n = rw (e, byte_rule, n, open_rule)

      byte_bad : next (held ++ (b ∷ [])) ≡ bad_start
          → byte_rule J s b ≡ respond J s 6 (J.on_bad_start s.registry s.totals.counts) closed
      unfolding byte_rule open_rule keep respond
      byte_bad n = rw (e, byte_rule, n, open_rule)

      byte_skipped : (header : List ℕ) (missing : ℕ) → next (held ++ (b ∷ [])) ≡ skipped header missing
          → byte_rule J s b ≡ keep J s (skipping header missing)
      unfolding byte_rule open_rule keep respond
      byte_skipped header missing n = rw (e, byte_rule, n, open_rule)

      byte_whole : (size : ℕ) → next (held ++ (b ∷ [])) ≡ whole size
          → byte_rule J s b ≡ respond J s size (judge J s.registry s.totals.counts (held ++ (b ∷ []))) (opened [])
      unfolding byte_rule open_rule keep respond
      byte_whole size n = rw (e, byte_rule, n, open_rule)

  -- ---- the first byte of a call, and the rest

  call_nothing : (s : State Reg Count) (c : Connection) → s.connection ≡ c → call_rule (reader J) s [] ≡ waiting s 0 c
  unfolding call_rule
  call_nothing s c e =
      let t : s.totals.taken ≡ s.totals.taken + 0 = omega arith in
      λ i. effect_of 0 None (e i) s.registry (t i) s.totals.answered s.totals.dropped s.totals.counts

  module _ (s : State Reg Count) (b : ℕ) (chunk : List ℕ) where
    call_keeps : (c : Connection) → byte_rule J s b ≡ keep J s c
        → call_rule (reader J) s (b ∷ chunk) ≡ later (call_rule (reader J) (keep J s c).kept chunk)
    unfolding keep
    call_keeps c e =
        call_goes_on J s b chunk (ap (λ (x : Step (State Reg Count) Out). x.event) e)
        ∙ ap (λ (x : Step (State Reg Count) Out). later (call_rule (reader J) x.kept chunk)) e

    call_drops : byte_rule J s b ≡ drop_byte J s
        → call_rule (reader J) s (b ∷ chunk) ≡ later (call_rule (reader J) (drop_byte J s).kept chunk)
    unfolding drop_byte
    call_drops e =
        call_goes_on J s b chunk (ap (λ (x : Step (State Reg Count) Out). x.event) e)
        ∙ ap (λ (x : Step (State Reg Count) Out). later (call_rule (reader J) x.kept chunk)) e

    call_answers : (size : ℕ) (v : Verdict Reg Count Out) (c : Connection) → byte_rule J s b ≡ respond J s size v c
        → call_rule (reader J) s (b ∷ chunk) ≡ answering s 1 size v c
    unfolding respond
    call_answers size v c e =
        let t : suc s.totals.taken ≡ s.totals.taken + 1 = omega arith in
        call_responds J s b chunk v.response (ap (λ (x : Step (State Reg Count) Out). x.event) e)
        ∙ ap (λ (x : Step (State Reg Count) Out). record { taken = 1; event = Some v.response; kept = x.kept }) e
        ∙ (λ i. effect_of 1 (Some v.response) c v.registry (t i) (s.totals.answered + size) s.totals.dropped v.counts)

  later_waiting : (s : State Reg Count) (c₀ c : Connection) (n : ℕ) → later (waiting (keep J s c₀).kept n c) ≡ waiting {Out = Out} s (suc n) c
  unfolding keep
  later_waiting s c₀ c n =
      let t : suc s.totals.taken + n ≡ s.totals.taken + suc n = omega arith in
      λ i. effect_of (suc n) None c s.registry (t i) s.totals.answered s.totals.dropped s.totals.counts

  later_answering : (s : State Reg Count) (c₀ c : Connection) (n size : ℕ) (v : Verdict Reg Count Out)
      → later (answering (keep J s c₀).kept n size v c) ≡ answering s (suc n) size v c
  unfolding keep
  later_answering s c₀ c n size v =
      let t : suc s.totals.taken + n ≡ s.totals.taken + suc n = omega arith in
      λ i. effect_of (suc n) (Some v.response) c v.registry (t i) (s.totals.answered + size) s.totals.dropped v.counts

  later_dropping : (s : State Reg Count) (n : ℕ) → later (dropping (drop_byte J s).kept n) ≡ dropping {Out = Out} s (suc n)
  unfolding drop_byte
  later_dropping s n =
      let t : suc s.totals.taken + n ≡ s.totals.taken + suc n = omega arith in
      let d : suc s.totals.dropped + n ≡ s.totals.dropped + suc n = omega arith in
      λ i. effect_of (suc n) None closed s.registry (t i) s.totals.answered (d i) s.totals.counts

  -- ---- LAW 1: a closed connection

  pub call_closed : (s : State Reg Count) (chunk : List ℕ) → s.connection ≡ closed
      → call_rule (reader J) s chunk ≡ dropping s (length chunk)
  unfolding drop_byte
  call_closed s [] e =
      let d : s.totals.dropped ≡ s.totals.dropped + 0 = omega arith in
      call_nothing s closed e
      ∙ (λ i. effect_of 0 None closed s.registry (s.totals.taken + 0) s.totals.answered (d i) s.totals.counts)
  call_closed s (b ∷ chunk) e =
      call_drops s b chunk (byte_closed s b e)
      ∙ ap later (call_closed (drop_byte J s).kept chunk refl)
      ∙ later_dropping s (length chunk)

  -- ---- LAW 2: a connection that skips

  pub call_skips : (s : State Reg Count) (header : List ℕ) (to_go : ℕ) (chunk : List ℕ) → s.connection ≡ skipping header to_go
      → length chunk < to_go
      → call_rule (reader J) s chunk ≡ waiting s (length chunk) (skipping header (to_go - length chunk))
  unfolding keep
  call_skips s header to_go [] e h =
      call_nothing s (skipping header to_go) e
      ∙ ap (λ (n : ℕ). waiting s 0 (skipping header n)) (omega arith)
  call_skips s header to_go (b ∷ chunk) e h =
      call_keeps s b chunk (skipping header (to_go - 1)) (byte_skips s b header to_go e (omega arith))
      ∙ ap later (call_skips (keep J s (skipping header (to_go - 1))).kept header (to_go - 1) chunk refl (omega arith))
      ∙ later_waiting s (skipping header (to_go - 1)) (skipping header (to_go - 1 - length chunk)) (length chunk)
      ∙ ap (λ (n : ℕ). waiting s (suc (length chunk)) (skipping header n)) (omega arith)

  pub call_skipped : (s : State Reg Count) (header : List ℕ) (to_go : ℕ) (chunk : List ℕ) → s.connection ≡ skipping header to_go
      → 1 ≤ to_go → to_go ≤ length chunk
      → call_rule (reader J) s chunk
      ≡ answering s to_go (request_length header) (J.on_oversized s.registry s.totals.counts header) (opened [])
  unfolding keep
  call_skipped s header to_go [] e l h = absurd (omega arith)
  call_skipped s header to_go (b ∷ chunk) e l h =
      go (call_skipped (keep J s (skipping header (to_go - 1))).kept header (to_go - 1) chunk refl) (leb to_go 1) refl
    where
      v : Verdict Reg Count Out
      v = J.on_oversized s.registry s.totals.counts header

      s' : State Reg Count
      s' = (keep J s (skipping header (to_go - 1))).kept

      go : (1 ≤ to_go - 1 → to_go - 1 ≤ length chunk
          → call_rule (reader J) s' chunk ≡ answering s' (to_go - 1) (request_length header) v (opened []))
          → (t : Bool) → leb to_go 1 ≡ t
          → call_rule (reader J) s (b ∷ chunk) ≡ answering s to_go (request_length header) v (opened [])
      go ih true t =
          let k : to_go ≤ 1 = leb-true _ _ t in
          let one : 1 ≡ to_go = omega arith in
          call_answers s b chunk (request_length header) v (opened []) (byte_ends s b header to_go e k)
          ∙ ap (λ (n : ℕ). answering s n (request_length header) v (opened [])) one
      go ih false t =
          let k : 1 < to_go = leb-false _ _ t in
          let n : suc (to_go - 1) ≡ to_go = omega arith in
          call_keeps s b chunk (skipping header (to_go - 1)) (byte_skips s b header to_go e k)
          ∙ ap later (ih (omega arith) (omega arith))
          ∙ later_answering s (skipping header (to_go - 1)) (opened []) (to_go - 1) (request_length header) v
          ∙ ap (λ (n : ℕ). answering s n (request_length header) v (opened [])) n

-- ---- an open connection, by what it holds with the chunk begins with

module _ {Reg Count Out : Type 0} (J : Judgement Reg Count Out) where
  -- what a call does on an open connection that holds `h` bytes, by what these and the `n` bytes of the chunk begin with
  open_effect : State Reg Count → (h n : ℕ) → List ℕ → Next → Effect (State Reg Count) Out
  open_effect s h n all unfinished = waiting s n (opened all)
  open_effect s h n all bad_start = answering s (6 - h) 6 (J.on_bad_start s.registry s.totals.counts) closed
  open_effect s h n all (skipped header missing) = waiting s n (skipping header missing)
  open_effect s h n all (whole size) =
      answering s (size - h) size (judge J s.registry s.totals.counts (take size all)) (opened [])

  -- the effect is the open connection's
  abbrev Opened : State Reg Count → ℕ → ℕ → List ℕ → Effect (State Reg Count) Out → Type 0
  Opened s h n all effect = effect ≡ open_effect s h n all (next all)

  -- the first byte: `x` is what was held, with it
  module _ (s : State Reg Count) (h : ℕ) (x : List ℕ) (longer : length x ≡ suc h) (b : ℕ) (chunk : List ℕ) where
    shifted : Unfinished x → Shape (x ++ chunk)
        → later (open_effect (keep J s (opened x)).kept (length x) (length chunk) (x ++ chunk) (next (x ++ chunk)))
        ≡ open_effect s h (suc (length chunk)) (x ++ chunk) (next (x ++ chunk))
    unfolding open_effect keep
    shifted u (is_unfinished v) =
        let n = next_unfinished _ v in
        rw n (later_waiting J s (opened x) (opened (x ++ chunk)) (length chunk))
    shifted u (is_bad g l) =
        let n = next_bad _ g l in
        let few : length x < 6 = bad_behind x chunk u l in
        let v : Verdict Reg Count Out = J.on_bad_start s.registry s.totals.counts in
        let c : suc (6 - length x) ≡ 6 - h = omega arith in
        rw n (later_answering J s (opened x) closed (6 - length x) 6 v ∙ ap (λ (m : ℕ). answering s m 6 v closed) c)
    shifted u (is_skipped k) =
        let n = next_skipped _ k.legal k.header k.more k.large in
        rw n (later_waiting J s (opened x) _ (length chunk))
    shifted u (is_whole l m) =
        let n = next_whole _ l m in
        let few : length x < request_length (x ++ chunk) = whole_behind x chunk u l in
        let v : Verdict Reg Count Out = judge J s.registry s.totals.counts (take (request_length (x ++ chunk)) (x ++ chunk)) in
        let c : suc (request_length (x ++ chunk) - length x) ≡ request_length (x ++ chunk) - h = omega arith in
        rw n (later_answering J s (opened x) (opened []) (request_length (x ++ chunk) - length x) (request_length (x ++ chunk)) v
        ∙ ap (λ (m : ℕ). answering s m (request_length (x ++ chunk)) v (opened [])) c)

    first_unfinished : Unfinished x → byte_rule J s b ≡ keep J s (opened x)
        → Opened (keep J s (opened x)).kept (length x) (length chunk) (x ++ chunk) (call_rule (reader J) (keep J s (opened x)).kept chunk)
        → Opened s h (suc (length chunk)) (x ++ chunk) (call_rule (reader J) s (b ∷ chunk))
    first_unfinished u e ih = call_keeps J s b chunk (opened x) e ∙ ap later ih ∙ shifted u (shape (x ++ chunk))

    first_bad : 6 ≤ length x → legal_start x ≡ false → length x ≡ 6
        → byte_rule J s b ≡ respond J s 6 (J.on_bad_start s.registry s.totals.counts) closed
        → Opened s h (suc (length chunk)) (x ++ chunk) (call_rule (reader J) s (b ∷ chunk))
    unfolding open_effect
    first_bad g l six e =
        let v : Verdict Reg Count Out = J.on_bad_start s.registry s.totals.counts in
        let c : 1 ≡ 6 - h = omega arith in
        rw (bad_append x chunk g l) (call_answers J s b chunk 6 v closed e ∙ ap (λ (m : ℕ). answering s m 6 v closed) c)

    first_whole : legal_start x ≡ true → request_length x ≤ length x → request_length x ≡ length x
        → byte_rule J s b ≡ respond J s (request_length x) (judge J s.registry s.totals.counts x) (opened [])
        → Opened s h (suc (length chunk)) (x ++ chunk) (call_rule (reader J) s (b ∷ chunk))
    unfolding open_effect
    first_whole l m last e =
        let c : 1 ≡ request_length x - h = omega arith in
        let same : take (request_length x) (x ++ chunk) ≡ x
        = take-append-le (request_length x) x chunk m ∙ ap (λ (n : ℕ). take n x) last ∙ take-length x in
        rw (whole_append x chunk l m)
        (call_answers J s b chunk (request_length x) (judge J s.registry s.totals.counts x) (opened []) e
        ∙ ap₂ (λ (n : ℕ) (t : List ℕ). answering s n (request_length x) (judge J s.registry s.totals.counts t) (opened [])) c (sym same))

    first_skipped : Skipped x → byte_rule J s b ≡ keep J s (skipping (take (header_length x) x) (request_length x - length x))
        → Opened s h (suc (length chunk)) (x ++ chunk) (call_rule (reader J) s (b ∷ chunk))
    unfolding open_effect keep
    first_skipped k e = go (leb (request_length x - length x) (length chunk)) refl
      where
        go : (t : Bool) → leb (request_length x - length x) (length chunk) ≡ t
            → Opened s h (suc (length chunk)) (x ++ chunk) (call_rule (reader J) s (b ∷ chunk))
        go true t =
            let fits : request_length x - length x ≤ length chunk = leb-true _ _ t in
            let more : length x < request_length x = k.more in
            let c : suc (request_length x - length x) ≡ request_length x - h = omega arith in
            let v : Verdict Reg Count Out = J.on_oversized s.registry s.totals.counts (take (header_length x) x) in
            let at : length x + (request_length x - length x) ≡ request_length x = omega arith in
            let same : take (request_length x) (x ++ chunk) ≡ x ++ take (request_length x - length x) chunk
            = ap (λ (n : ℕ). take n (x ++ chunk)) (sym at) ∙ take-append-add x chunk (request_length x - length x) in
            let verdict : judge J s.registry s.totals.counts (take (request_length x) (x ++ chunk)) ≡ v
            = ap (judge J s.registry s.totals.counts) same
            ∙ judge_large J s.registry s.totals.counts x (take (request_length x - length x) chunk) k in
            rw (skipped_ends x chunk k fits)
            (call_keeps J s b chunk _ e
            ∙ ap later (call_skipped J (keep J s (skipping (take (header_length x) x) (request_length x - length x))).kept (take (header_length x) x) (request_length x - length x) chunk refl (omega arith) fits)
            ∙ later_answering J s (skipping (take (header_length x) x) (request_length x - length x)) (opened []) (request_length x - length x) (request_length (take (header_length x) x)) v
            ∙ ap₂ (λ (n m : ℕ). answering s n m v (opened [])) c (header_length_lem x k)
            ∙ ap (λ (w : Verdict Reg Count Out). answering s (request_length x - h) (request_length x) w (opened [])) (sym verdict))
        go false t =
            let few : length chunk < request_length x - length x = leb-false _ _ t in
            rw (skipped_stays x chunk k few)
            (call_keeps J s b chunk _ e
            ∙ ap later (call_skips J (keep J s (skipping (take (header_length x) x) (request_length x - length x))).kept (take (header_length x) x) (request_length x - length x) chunk refl few)
            ∙ later_waiting J s (skipping (take (header_length x) x) (request_length x - length x)) _ (length chunk))

  -- ---- LAW 3: an open connection

  call_open : (s : State Reg Count) (held chunk : List ℕ) → s.connection ≡ opened held → Unfinished held
      → call_rule (reader J) s chunk ≡ open_effect s (length held) (length chunk) (held ++ chunk) (next (held ++ chunk))
  unfolding keep open_effect
  call_open s held [] e u =
      let same : held ++ [] ≡ held = append-nil held in
      let n : next (held ++ []) ≡ unfinished = ap next same ∙ next_unfinished held u in
      rw n (call_nothing J s (opened held) e ∙ ap (λ (t : List ℕ). waiting s 0 (opened t)) (sym same))
  call_open s held (b ∷ chunk) e u =
      go (call_open (keep J s (opened (held ++ (b ∷ [])))).kept (held ++ (b ∷ [])) chunk refl) (shape (held ++ (b ∷ [])))
      ∙ ap (λ (all : List ℕ). open_effect s (length held) (suc (length chunk)) all (next all)) (append_assoc held (b ∷ []) chunk)
    where
      x : List ℕ
      x = held ++ (b ∷ [])

      go : (Unfinished x → Opened (keep J s (opened x)).kept (length x) (length chunk) (x ++ chunk) (call_rule (reader J) (keep J s (opened x)).kept chunk))
          → Shape x
          → Opened s (length held) (suc (length chunk)) (x ++ chunk) (call_rule (reader J) s (b ∷ chunk))
      go ih (is_unfinished v) =
          first_unfinished s (length held) x (length_snoc held b) b chunk v (byte_unfinished J s b held e (next_unfinished _ v)) (ih v)
      go ih (is_bad g l) =
          first_bad s (length held) x (length_snoc held b) b chunk g l (bad_last held b u g l) (byte_bad J s b held e (next_bad _ g l))
      go ih (is_skipped k) =
          first_skipped s (length held) x (length_snoc held b) b chunk k
          (byte_skipped J s b held e _ _ (next_skipped _ k.legal k.header k.more k.large))
      go ih (is_whole l m) =
          first_whole s (length held) x (length_snoc held b) b chunk l m (whole_last held b u l m) (byte_whole J s b held e _ (next_whole _ l m))

  module _ (s : State Reg Count) (held chunk : List ℕ) (e : s.connection ≡ opened held) (u : next held ≡ unfinished) where
    pub call_unfinished : next (held ++ chunk) ≡ unfinished
        → call_rule (reader J) s chunk ≡ waiting s (length chunk) (opened (held ++ chunk))
    unfolding open_effect
    call_unfinished n =
        call_open s held chunk e (unfinished_held held u) ∙ ap (open_effect s (length held) (length chunk) (held ++ chunk)) n

    pub call_bad : next (held ++ chunk) ≡ bad_start
        → call_rule (reader J) s chunk ≡ answering s (6 - length held) 6 (J.on_bad_start s.registry s.totals.counts) closed
    unfolding open_effect
    call_bad n =
        call_open s held chunk e (unfinished_held held u) ∙ ap (open_effect s (length held) (length chunk) (held ++ chunk)) n

    pub call_large : (header : List ℕ) (missing : ℕ) → next (held ++ chunk) ≡ skipped header missing
        → call_rule (reader J) s chunk ≡ waiting s (length chunk) (skipping header missing)
    unfolding open_effect
    call_large header missing n =
        call_open s held chunk e (unfinished_held held u) ∙ ap (open_effect s (length held) (length chunk) (held ++ chunk)) n

    pub call_whole : (n : ℕ) → next (held ++ chunk) ≡ whole n
        → call_rule (reader J) s chunk
        ≡ answering s (n - length held) n (judge J s.registry s.totals.counts (take n (held ++ chunk))) (opened [])
    unfolding open_effect
    call_whole n q =
        call_open s held chunk e (unfinished_held held u) ∙ ap (open_effect s (length held) (length chunk) (held ++ chunk)) q

-- ---- a well-formed connection that skips

pub record WellSkipping (header : List ℕ) (to_go : ℕ) : Type 0 where
  pub many : 28 ≤ length header
  pub legal : legal_start header ≡ true
  pub exact : length header ≡ header_length header
  pub large : oversized header ≡ true
  pub least : 1 ≤ to_go
  pub most : to_go ≤ content_length header + auth_length header

pub well_skipping : (header : List ℕ) (to_go : ℕ) → well_formed (skipping header to_go) ≡ true → WellSkipping header to_go
unfolding well_formed
well_skipping header to_go w =
    let six : Bool = leb 6 (length header) in
    let size : Bool = eqb (length header) (header_length header) in
    let w₄ = and_left (six && legal_start header && size && oversized header && leb 1 to_go) _ w in
    let w₃ = and_left (six && legal_start header && size && oversized header) _ w₄ in
    let w₂ = and_left (six && legal_start header && size) _ w₃ in
    let w₁ = and_left (six && legal_start header) _ w₂ in
    let legal : legal_start header ≡ true = and_right six _ w₁ in
    let exact : length header ≡ header_length header = eqb-true _ _ (and_right (six && legal_start header) _ w₂) in
    record {
      many = omega (arith, legal_size header legal);
      legal = legal;
      exact = exact;
      large = and_right (six && legal_start header && size) _ w₃;
      least = leb-true _ _ (and_right (six && legal_start header && size && oversized header) _ w₄);
      most = leb-true _ _ (and_right (six && legal_start header && size && oversized header && leb 1 to_go) _ w);
    }
