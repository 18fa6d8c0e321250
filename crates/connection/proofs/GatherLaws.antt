-- What is wanted of a request that has begun, and what its bytes then are.
use mathlib.Core.Path.{◌≡◌, sym, ap, ap₂, ◌∙◌}
use Prim.Native.Nat.{ℕ, ◌+◌, ◌-◌, ◌≤◌, ◌<◌}
use mathlib.Core.Bool.{true, false, true≢false}
use mathlib.Core.List.{List, [], ◌++◌, append_assoc, append-nil}
use native.Mathlib.Omega.{arith}
use borrow.Author.Tests.{lt-ltb, le-ltb, ltb-false}
use lib.Dec.{ltb}
use lib.ListN.{length, take, drop, replicate, length-append, length-drop}
use lib.Seq.{take_all, take-add, take-append_seam, length-take-le}
use Rattle.wire.specs.Request.{header_size, content_length, auth_length, header_length, request_length}
use Rattle.wire.proofs.TestLaws.{or_left, or_right}
use Rattle.stream.specs.Frame.{content_most, auth_most, legal_start, oversized, unfinished, bad_start, skipped, whole, next}
use Rattle.stream.proofs.FrameLaws.{Unfinished, short, in_header, in_body, legal_size, legal_start_append, header_size_append, request_length_append, oversized_append}
use Rattle.stream.proofs.ChunkLaws.{unfinished_held, bad_found, whole_found, Skip, skip_found}
use Rattle.stream.proofs.GatheredLaws.{length_gathered}
use Rattle.stream.specs.Rules.{opened}
use Rattle.connection.specs.Connection.{held_most, connection_size, connection_bytes}
use Rattle.connection.specs.code.Gather.{wanted_of, held_in, Holding, Filled, Gathers}
use Rattle.stream.specs.code.Framed.{frame_of}
use Rattle.stream.specs.declared.frame.Frame.{Frame}
use Rattle.connection.proofs.ConnectionLaws.{bytes_there, size_there, legal_most, held_most_lem}

-- by where the bytes end
module _ (s : List ℕ) where
  pub wanted_short : length s < 6 → wanted_of s ≡ 6
  unfolding wanted_of
  wanted_short h = rw (lt-ltb (length s) 6 h)

  pub wanted_header : 6 ≤ length s → length s < header_length s → wanted_of s ≡ header_length s
  unfolding wanted_of
  wanted_header h k = rw (le-ltb (length s) 6 h, lt-ltb (length s) (header_length s) k)

  pub wanted_body : 6 ≤ length s → header_length s ≤ length s → wanted_of s ≡ request_length s
  unfolding wanted_of
  wanted_body h k = rw (le-ltb (length s) 6 h, le-ltb (length s) (header_length s) k)

record Wanted (s : List ℕ) : Type 0 where
  more : length s < wanted_of s
  few : wanted_of s ≤ held_most

wanted : (s : List ℕ) → Unfinished s → Wanted s
unfolding oversized
wanted s (short h) = let w = wanted_short s h in record { more = omega arith; few = omega arith }
wanted s (in_header h l k) =
    let w = wanted_header s h k in
    let m = legal_most s l in
    record { more = omega arith; few = omega arith }
wanted s (in_body l k m o) =
    let w = wanted_body s (let x : 6 ≤ length s = omega arith in x) k in
    let c : content_length s ≤ content_most = ltb-false _ _ (or_left _ _ o) in
    let a : auth_length s ≤ auth_most = ltb-false _ _ (or_right (ltb content_most (content_length s)) _ o) in
    let t = legal_most s l in
    record { more = omega arith; few = omega arith }

pub wanted_more : (s : List ℕ) → next s ≡ unfinished → length s < wanted_of s
wanted_more s u = (wanted s (unfinished_held s u)).more

pub wanted_few : (s : List ℕ) → next s ≡ unfinished → wanted_of s ≤ held_most
wanted_few s u = (wanted s (unfinished_held s u)).few

-- ---- bytes behind, no more than are wanted: what they then begin with ends with them

module _ (s x : List ℕ) (u : next s ≡ unfinished) (few : length s + length x ≤ wanted_of s) where
  long : length (s ++ x) ≡ length s + length x
  long = length-append s x

  gathered_bad : next (s ++ x) ≡ bad_start → length s + length x ≡ 6
  gathered_bad e = go (unfinished_held s u)
    where
      found : (6 ≤ length (s ++ x)) × (legal_start (s ++ x) ≡ false)
      found = bad_found (s ++ x) e

      go : Unfinished s → length s + length x ≡ 6
      go (short h) = omega (arith, long, found.0, wanted_short s h)
      go (in_header h l k) = absurd (true≢false (sym l ∙ sym (legal_start_append s x h) ∙ found.1))
      go (in_body l k m o) = absurd (true≢false (sym l ∙ sym (legal_start_append s x (omega arith)) ∙ found.1))

  gathered_whole : (n : ℕ) → next (s ++ x) ≡ whole n → length s + length x ≡ n
  gathered_whole n e = go (unfinished_held s u)
    where
      found : (legal_start (s ++ x) ≡ true) × (request_length (s ++ x) ≡ n) × (n ≤ length (s ++ x))
      found = whole_found (s ++ x) n e

      big : 22 ≤ header_size (s ++ x)
      big = legal_size (s ++ x) found.0

      go : Unfinished s → length s + length x ≡ n
      go (short h) = absurd (omega (arith, long, found.1, found.2, wanted_short s h, big))
      go (in_header h l k) = omega (arith, long, found.1, found.2, wanted_header s h k, header_size_append s x h)
      go (in_body l k m o) =
          let size = legal_size s l in
          omega (arith, long, found.1, found.2, wanted_body s (let y : 6 ≤ length s = omega arith in y) k, request_length_append s x (let y : 28 ≤ length s = omega arith in y))

  gathered_header : (h : List ℕ) (m : ℕ) → next (s ++ x) ≡ skipped h m → s ++ x ≡ h
  gathered_header h m e = sym (take_all (header_length (s ++ x)) (s ++ x) (go (unfinished_held s u))) ∙ sym found.header_is
    where
      found : Skip (s ++ x) h m
      found = skip_found (s ++ x) h m e

      big : 22 ≤ header_size (s ++ x)
      big = legal_size (s ++ x) found.skipped_is.legal

      go : Unfinished s → length (s ++ x) ≤ header_length (s ++ x)
      go (short q) = absurd (omega (arith, long, found.skipped_is.header, wanted_short s q, big))
      go (in_header q l k) = omega (arith, long, wanted_header s q k, header_size_append s x q)
      go (in_body l k n o) =
          let size = legal_size s l in
          absurd (true≢false (sym found.skipped_is.large ∙ oversized_append s x (let y : 28 ≤ length s = omega arith in y) ∙ o))

-- ---- an open connection that holds bytes

module _ (memory : List ℕ) (n : ℕ) (h : Holding memory n) where
  pub holding_few : n ≤ held_most
  holding_few = let f = held_most_lem (held_in n memory) h.begun in let l = h.long in omega arith

  pub holding_size : length memory ≡ connection_size
  unfolding connection_bytes
  holding_size =
      ap length h.memory_is
      ∙ size_there 0 (length (held_in n memory)) (held_in n memory) (let f = holding_few in let l = h.long in (let x : length (held_in n memory) ≤ held_most = omega arith in x))

-- the bytes that open memory holds
pub held_back : (held : List ℕ) → held_in (length held) (connection_bytes (opened held)) ≡ held
unfolding connection_bytes
held_back held = ap (take (length held)) (bytes_there 0 (length held) held) ∙ take-append_seam held (replicate (held_most - length held) 0)

-- memory that is the bytes of an open connection holds what that holds
pub holding_of : (memory held : List ℕ) (n : ℕ) → memory ≡ connection_bytes (opened held) → length held ≡ n → next held ≡ unfinished → Holding memory n
holding_of memory held n e l u =
    let same : held_in n memory ≡ held = ap₂ (λ (k : ℕ) (m : List ℕ). held_in k m) (sym l) e ∙ held_back held in
    record {
      memory_is = e ∙ ap (λ (x : List ℕ). connection_bytes (opened x)) (sym same);
      long = ap length same ∙ l;
      begun = ap next same ∙ u;
    }

-- ---- bytes of the chunk that stand behind those held, and more still wanted

pub record Part (held chunk memory : List ℕ) (used : ℕ) : Type 0 where
  pub left : used ≤ length chunk
  pub memory_is : memory ≡ connection_bytes (opened (held ++ take used chunk))
  pub begun : next (held ++ take used chunk) ≡ unfinished

pub part_none : (memory chunk : List ℕ) (n : ℕ) → Holding memory n → Part (held_in n memory) chunk memory 0
part_none memory chunk n h =
    let none : held_in n memory ++ [] ≡ held_in n memory = append-nil (held_in n memory) in
    record {
      left = omega arith;
      memory_is = h.memory_is ∙ ap (λ (x : List ℕ). connection_bytes (opened x)) (sym none);
      begun = ap next none ∙ h.begun;
    }

module _ {held chunk memory : List ℕ} {n used : ℕ} (l : length held ≡ n) (p : Part held chunk memory used) where
  part_long : length (held ++ take used chunk) ≡ n + used
  part_long = length_gathered held chunk used p.left ∙ ap (λ (a : ℕ). a + used) l

  pub part_holds : Holding memory (n + used)
  part_holds = holding_of memory (held ++ take used chunk) (n + used) p.memory_is part_long p.begun

  part_in : held_in (n + used) memory ≡ held ++ take used chunk
  part_in = ap₂ (λ (k : ℕ) (m : List ℕ). held_in k m) (sym part_long) p.memory_is ∙ held_back (held ++ take used chunk)

-- n bytes were held and `used` more, and now k more
pub record More (held chunk memory : List ℕ) (n used : ℕ) (after : List ℕ) (k : ℕ) : Type 0 where
  pub long : length held ≡ n
  pub part : Part held chunk memory used
  pub filled : Filled (held_in (n + used) memory) (drop used chunk) after k

module _ {held chunk memory : List ℕ} {n used : ℕ} {after : List ℕ} {k : ℕ} (r : More held chunk memory n used after k) where
  holds : Holding memory (n + used)
  holds = part_holds r.long r.part

  on : held_in (n + used) memory ++ take k (drop used chunk) ≡ held ++ take (used + k) chunk
  on = ap (λ (x : List ℕ). x ++ take k (drop used chunk)) (part_in r.long r.part) ∙ append_assoc held (take used chunk) (take k (drop used chunk)) ∙ ap (λ (x : List ℕ). held ++ x) (sym (take-add used k chunk))

  after_is : after ≡ connection_bytes (opened (held ++ take (used + k) chunk))
  after_is = r.filled.memory_is ∙ ap (λ (x : List ℕ). connection_bytes (opened x)) on

  pub after_left : used + k ≤ length chunk
  after_left = let few = r.part.left in let more = r.filled.left in omega (arith, length-drop used chunk)

  after_long : length (held ++ take (used + k) chunk) ≡ n + (used + k)
  after_long = length_gathered held chunk (used + k) after_left ∙ ap (λ (a : ℕ). a + (used + k)) r.long

  pub after_few : n + (used + k) ≤ held_most
  after_few =
      let few = r.filled.few in
      let most = wanted_few (held_in (n + used) memory) holds.begun in
      let long = holds.long in
      omega arith

  pub after_size : length after ≡ connection_size
  unfolding connection_bytes
  after_size =
      ap length after_is
      ∙ size_there 0 (length (held ++ take (used + k) chunk)) (held ++ take (used + k) chunk) (let a = after_long in let b = after_few in (let x : length (held ++ take (used + k) chunk) ≤ held_most = omega arith in x))

  pub after_in : take (9 + n + (used + k) - 9) (drop 9 after) ≡ held ++ take (used + k) chunk
  after_in =
      ap₂ (λ (m : ℕ) (x : List ℕ). held_in m x) (let a = after_long in (let x : 9 + n + (used + k) - 9 ≡ length (held ++ take (used + k) chunk) = omega arith in x)) after_is
      ∙ held_back (held ++ take (used + k) chunk)

  pub after_some : used + k < length chunk → 0 < k
  after_some h =
      let more = r.filled.more (omega (arith, length-drop used chunk)) in
      let want = wanted_more (held_in (n + used) memory) holds.begun in
      omega arith

  pub part_again : next (held ++ take (used + k) chunk) ≡ unfinished → Part held chunk after (used + k)
  part_again u = record { left = after_left; memory_is = after_is; begun = u }

  pub gathers : (frame : Frame) → frame ≡ frame_of (next (held ++ take (used + k) chunk))
      → (next (held ++ take (used + k) chunk) ≡ unfinished → used + k ≡ length chunk)
      → Gathers held chunk after (record { used = used + k; frame = frame })
  gathers frame e all =
      let long = holds.long in
      let s : List ℕ = held_in (n + used) memory in
      let x : List ℕ = take k (drop used chunk) in
      let k-long : length x ≡ k = length-take-le k (drop used chunk) r.filled.left in
      let few = r.filled.few in
      let fits : length s + length x ≤ wanted_of s = omega arith in
      record {
        used = after_left;
        memory_is = after_is;
        frame = e;
        all = all;
        bad = λ b. let w = gathered_bad s x holds.begun fits (ap next on ∙ b) in omega (arith, r.long);
        header = λ h m b. sym on ∙ gathered_header s x holds.begun fits h m (ap next on ∙ b);
        whole = λ m b. let w = gathered_whole s x holds.begun fits m (ap next on ∙ b) in omega (arith, r.long);
      }
