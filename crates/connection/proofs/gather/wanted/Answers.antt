use Prim.Native.Nat.{ℕ, ◌≤◌, ◌<◌}
use mathlib.Core.Path.{◌≡◌, sym}
use mathlib.Core.List.{List}
use native.Mathlib.Omega.{arith}
use lib.ListN.{length}
use Rattle.wire.specs.Request.{header_length}
use Rattle.stream.proofs.FrameLaws.{Unfinished, short, in_header, in_body, legal_size}
use Rattle.stream.proofs.ChunkLaws.{unfinished_held}
use Rattle.connection.proofs.GatherLaws.{wanted_short, wanted_header, wanted_body, wanted_more, wanted_few}
use Rattle.connection.proofs.gather.wanted.Goals as goal

-- past the header's end there is a whole header
long : (b : List ℕ) → Unfinished b → 6 ≤ length b → header_length b ≤ length b → 28 ≤ length b
long b (short h) six past = absurd (omega arith)
long b (in_header h l k) six past = absurd (omega arith)
long b (in_body l k m o) six past = omega (arith, legal_size b l)

pub returns-then-bytes-lt6 : goal.returns-then-bytes-lt6
returns-then-bytes-lt6 c =
    (sym (wanted_short c.args.bytes.now c.if-bytes-lt6.true), c.if-bytes-lt6.true, omega arith)

pub returns-then-bytes-header : goal.returns-then-bytes-header
returns-then-bytes-header c =
    let b : List ℕ = c.args.bytes.now in
    let size : c.header_length-header.result ≡ header_length b = c.header_length-header.ensures in
    let six : 6 ≤ length b = omega arith in
    let short : length b < header_length b = omega arith in
    let w = wanted_header b six short in
    let f = wanted_few b c.requires in
    (omega arith, omega arith, omega arith)

pub request_length-requires : goal.request_length-requires
request_length-requires c =
    let b : List ℕ = c.args.bytes.now in
    let size : c.header_length-header.result ≡ header_length b = c.header_length-header.ensures in
    let six : 6 ≤ length b = omega arith in
    long b (unfinished_held b c.requires) six (let x : header_length b ≤ length b = omega arith in x)

pub returns : goal.returns
returns c =
    let b : List ℕ = c.args.bytes.now in
    let size : c.header_length-header.result ≡ header_length b = c.header_length-header.ensures in
    let six : 6 ≤ length b = omega arith in
    let past : header_length b ≤ length b = omega arith in
    let w = wanted_body b six past in
    let m = wanted_more b c.requires in
    let f = wanted_few b c.requires in
    let r = c.request_length.ensures.0 in
    (omega arith, omega arith, omega arith)
