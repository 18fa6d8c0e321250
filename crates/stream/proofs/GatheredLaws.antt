-- What a call does to an open connection, told from the bytes that were gathered: those held, and the first ones of the chunk.
use mathlib.Core.Path.{◌≡◌, sym, ap, ap₂, ◌∙◌}
use Prim.Native.Nat.{ℕ, ◌+◌, ◌-◌, ◌≤◌, ◌<◌}
use mathlib.Core.List.{List, [], ◌++◌, append_assoc}
use native.Mathlib.Omega.{arith}
use lib.ListN.{length, take, drop, length-append, length-drop, take-append-drop}
use lib.Seq.{take_all, take-append_seam, take-append-add, length-take-le}
use Rattle.wire.specs.Request.{request_length}
use Rattle.reading.specs.Call.{call_rule}
use Rattle.stream.specs.Frame.{unfinished, bad_start, skipped, whole, next}
use Rattle.stream.specs.Rules.{Verdict, Judgement, opened, skipping, closed, State, judge}
use Rattle.stream.specs.code.Effects.{waiting, answering}
use Rattle.stream.specs.Call.{reader}
use Rattle.stream.proofs.FrameLaws.{whole_append, bad_append, header_length_lem, skipped_stays, skipped_ends, judge_large}
use Rattle.stream.proofs.ChunkLaws.{bad_found, whole_found, Skip, skip_found, call_unfinished, call_bad, call_large, call_whole}

-- so many bytes are gathered
pub length_gathered : (held chunk : List ℕ) (used : ℕ) → used ≤ length chunk → length (held ++ take used chunk) ≡ length held + used
length_gathered held chunk used few = omega (arith, length-append held (take used chunk), length-take-le used chunk few)

module _ {Reg Count Out : Type 0} (J : Judgement Reg Count Out) (s : State Reg Count) (held chunk : List ℕ) (e : s.connection ≡ opened held) (u : next held ≡ unfinished) (used : ℕ) (few : used ≤ length chunk) where
  -- the bytes gathered, and behind them the rest of the chunk
  seam : (held ++ take used chunk) ++ drop used chunk ≡ held ++ chunk
  seam = append_assoc held (take used chunk) (drop used chunk) ∙ ap (λ (x : List ℕ). held ++ x) (take-append-drop used chunk)

  pub after_unfinished : next (held ++ take used chunk) ≡ unfinished → used ≡ length chunk
      → call_rule (reader J) s chunk ≡ waiting s used (opened (held ++ take used chunk))
  after_unfinished n all =
      let same : take used chunk ≡ chunk = take_all used chunk (omega arith) in
      call_unfinished J s held chunk e u (ap (λ (x : List ℕ). next (held ++ x)) (sym same) ∙ n)
      ∙ ap₂ (λ (k : ℕ) (x : List ℕ). waiting s k (opened (held ++ x))) (sym all) (sym same)

  pub after_bad : next (held ++ take used chunk) ≡ bad_start → length held + used ≡ 6
      → call_rule (reader J) s chunk ≡ answering s used 6 (J.on_bad_start s.registry s.totals.counts) closed
  after_bad n six =
      let (h, l) = bad_found (held ++ take used chunk) n in
      call_bad J s held chunk e u (ap next (sym seam) ∙ bad_append (held ++ take used chunk) (drop used chunk) h l)
      ∙ ap (λ (k : ℕ). answering s k 6 (J.on_bad_start s.registry s.totals.counts) closed) (let x : 6 - length held ≡ used = omega arith in x)

  pub after_whole : (n : ℕ) → next (held ++ take used chunk) ≡ whole n → length held + used ≡ n
      → call_rule (reader J) s chunk ≡ answering s used n (judge J s.registry s.totals.counts (held ++ take used chunk)) (opened [])
  after_whole n q all =
      let (l, r, h) = whole_found (held ++ take used chunk) n q in
      let now : next (held ++ chunk) ≡ whole n
      = ap next (sym seam) ∙ whole_append (held ++ take used chunk) (drop used chunk) l (let x : request_length (held ++ take used chunk) ≤ length (held ++ take used chunk) = omega arith in x) ∙ ap whole r in
      let same : take n (held ++ chunk) ≡ held ++ take used chunk
      = ap₂ (λ (k : ℕ) (x : List ℕ). take k x) (sym all ∙ sym (length_gathered held chunk used few)) (sym seam) ∙ take-append_seam (held ++ take used chunk) (drop used chunk) in
      call_whole J s held chunk e u n now
      ∙ ap₂ (λ (k : ℕ) (x : List ℕ). answering s k n (judge J s.registry s.totals.counts x) (opened [])) (let x : n - length held ≡ used = omega arith in x) same

  module _ (h : List ℕ) (m : ℕ) (q : next (held ++ take used chunk) ≡ skipped h m) where
    found : Skip (held ++ take used chunk) h m
    found = skip_found (held ++ take used chunk) h m q

    rest : length (drop used chunk) ≡ length chunk - used
    rest = length-drop used chunk

    pub after_skips : length chunk - used < m → call_rule (reader J) s chunk ≡ waiting s (length chunk) (skipping h (m - (length chunk - used)))
    after_skips less =
        let missing = found.missing_is in
        let now : next (held ++ chunk) ≡ skipped h (m - (length chunk - used))
        = ap next (sym seam)
        ∙ skipped_stays (held ++ take used chunk) (drop used chunk) found.skipped_is (let r = rest in (let x : length (drop used chunk) < request_length (held ++ take used chunk) - length (held ++ take used chunk) = omega arith in x))
        ∙ ap₂ skipped (sym found.header_is) (ap₂ (λ (a b : ℕ). a - b) (sym missing) rest) in
        call_large J s held chunk e u h (m - (length chunk - used)) now

    pub after_skipped : m ≤ length chunk - used
        → call_rule (reader J) s chunk ≡ answering s (used + m) (request_length h) (J.on_oversized s.registry s.totals.counts h) (opened [])
    after_skipped fits =
        let x : List ℕ = held ++ take used chunk in
        let missing = found.missing_is in
        let more = found.skipped_is.more in
        let there : request_length x - length x ≤ length (drop used chunk) = (let r = rest in (let y : request_length x - length x ≤ length (drop used chunk) = omega arith in y)) in
        let now : next (held ++ chunk) ≡ whole (request_length x)
        = ap next (sym seam) ∙ skipped_ends x (drop used chunk) found.skipped_is there in
        let size : request_length h ≡ request_length x = ap request_length found.header_is ∙ header_length_lem x found.skipped_is in
        let at : request_length x ≡ length x + m = omega arith in
        let part : take (request_length x) (held ++ chunk) ≡ x ++ take m (drop used chunk)
        = ap₂ (λ (k : ℕ) (y : List ℕ). take k y) at (sym seam) ∙ take-append-add x (drop used chunk) m in
        let verdict = ap (judge J s.registry s.totals.counts) part
        ∙ judge_large J s.registry s.totals.counts x (take m (drop used chunk)) found.skipped_is
        ∙ ap (J.on_oversized s.registry s.totals.counts) (sym found.header_is) in
        call_whole J s held chunk e u (request_length x) now
        ∙ ap₂ (λ (k n : ℕ). answering s k n (judge J s.registry s.totals.counts (take (request_length x) (held ++ chunk))) (opened [])) (let l = length_gathered held chunk used few in (let y : request_length x - length held ≡ used + m = omega arith in y)) (sym size)
        ∙ ap (λ (v : Verdict Reg Count Out). answering s (used + m) (request_length h) v (opened [])) verdict
