use mathlib.Core.Path.{◌≡◌, sym, ap, ap₂, ◌∙◌}
use mathlib.Core.Bool.{true, false}
use mathlib.Core.List.{List}
use Prim.Native.Nat.{ℕ, ◌-◌, ◌≤◌, ◌<◌}
use native.Mathlib.Omega.{arith}
use lib.ListN.{length, take}
use lib.Seq.{length-take-le}
use Rattle.wire.specs.Request.{header_size, header_length, request_length}
use Rattle.stream.specs.Frame.{legal_start, oversized}
use Rattle.stream.specs.code.Framed.{frame_of}
use Rattle.stream.specs.declared.frame.Frame.TheVariants.{Skipped, Whole}
use Rattle.stream.proofs.FrameLaws.{next_short, next_bad, next_header, next_body, next_skipped, next_whole, legal_size}
use Rattle.stream.proofs.frame.read_frame.Goals as goal
use Rattle.stream.proofs.frame.read_frame.Goals.{After-header_length-header}

pub returns-then-bytes-lt6 : goal.returns-then-bytes-lt6
returns-then-bytes-lt6 c = sym (ap frame_of (next_short _ c.if-bytes-lt6.true))

pub returns-then-not-is_legal_start : goal.returns-then-not-is_legal_start
returns-then-not-is_legal_start c =
    sym (ap frame_of (next_bad _ c.if-bytes-lt6.false (sym c.is_legal_start.ensures ∙ c.if-not-is_legal_start.true)))

-- what is known once the start is good: the header's length, and H
record Good (s : List ℕ) (header : ℕ) : Type 0 where
  legal : legal_start s ≡ true
  exact : header ≡ header_length s
  least : 22 ≤ header_size s

good : (c : After-header_length-header) → Good c.args.bytes.now c.header_length-header.result
good c =
    let legal = sym c.is_legal_start.ensures ∙ c.if-not-is_legal_start.false in
    record { legal = legal; exact = c.header_length-header.ensures; least = legal_size _ legal }

pub returns-then-bytes-header : goal.returns-then-bytes-header
returns-then-bytes-header c =
    let w = (goal.at.returns-then-bytes-header c).After-header_length-header in
    let g = good w in
    sym (ap frame_of (next_header _ c.if-bytes-lt6.false g.legal (omega arith)))

pub request_length-size-requires : goal.request_length-size-requires
request_length-size-requires c =
    let w = (goal.at.request_length-size-requires c).After-header_length-header in
    let g = good w in omega arith

pub returns-then-size-bytes : goal.returns-then-size-bytes
returns-then-size-bytes c =
    let w = (goal.at.returns-then-size-bytes c).After-header_length-header in
    let g = good w in
    let e = c.request_length-size.ensures.0 in
    sym (ap frame_of (next_whole _ g.legal (omega arith)) ∙ ap Whole (sym e))

pub is_oversized-requires : goal.is_oversized-requires
is_oversized-requires c =
    let w = (goal.at.is_oversized-requires c).After-header_length-header in
    let g = good w in omega arith

pub returns-then-is_oversized : goal.returns-then-is_oversized
returns-then-is_oversized c =
    let w = (goal.at.returns-then-is_oversized c).After-header_length-header in
    let g = good w in
    let s : List ℕ = c.args.bytes.now in
    let large : oversized s ≡ true = sym c.is_oversized.ensures ∙ c.if-is_oversized.true in
    let fits : header_length s ≤ length s = omega arith in
    let few : length s < request_length s = omega (arith, c.request_length-size.ensures.0) in
    let h : length (take (header_length s) s) ≡ c.header_length-header.result = length-take-le _ s fits ∙ omega arith in
    let m : request_length s - length s ≡ c.request_length-size.result - length s = omega (arith, c.request_length-size.ensures.0) in
    sym (ap frame_of (next_skipped s g.legal fits few large) ∙ ap₂ Skipped h m)

pub returns : goal.returns
returns c =
    let w = (goal.at.returns c).After-header_length-header in
    let g = good w in
    let s : List ℕ = c.args.bytes.now in
    let small : oversized s ≡ false = sym c.is_oversized.ensures ∙ c.if-is_oversized.false in
    let few : length s < request_length s = omega (arith, c.request_length-size.ensures.0) in
    sym (ap frame_of (next_body s g.legal (omega arith) few small))
