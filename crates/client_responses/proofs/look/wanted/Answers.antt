use Prim.Native.Nat.{ℕ, ◌+◌, ◌≤◌}
use mathlib.Core.Path.{◌≡◌, sym, ap, ◌∙◌}
use mathlib.Core.List.{List}
use native.Mathlib.Omega.{arith}
use lib.ListN.{length}
use Rattle.wire.specs.Response.{response_least, response_of}
use Rattle.wire.specs.declared.response.ResponseHeader.{ResponseHeader}
use Rattle.client_responses.specs.State.{bytes_in}
use Rattle.client_responses.specs.code.Looked.{wanted_of}
use Rattle.client_responses.proofs.StateLaws.{Well, well}
use Rattle.client_responses.proofs.FoundLaws as laws
use Rattle.client_responses.proofs.FoundLaws.{Wanted, wanted_short, wanted_header, wanted_body}
use Rattle.client_responses.proofs.LookLaws.{held_part}
use borrow.Author.Rules.{rules}
use Rattle.client_responses.proofs.look.wanted.Goals as goal
use Rattle.client_responses.proofs.look.wanted.Goals.{After-read_u16-count}

abbrev memory : After-read_u16-count → List ℕ
memory c = c.args.memory.now

is_well : (c : After-read_u16-count) → Well (memory c)
is_well c = well (memory c) c.requires.0

-- so many bytes are held
held : (c : After-read_u16-count) → length (bytes_in (memory c)) ≡ c.read_u16-count.result
held c = (is_well c).long ∙ sym c.read_u16-count.ensures

wants : (c : After-read_u16-count) → Wanted (bytes_in (memory c))
wants c = laws.wanted _ (bytes_in (memory c)) c.requires.1

pub read_u16-count-requires : goal.read_u16-count-requires
read_u16-count-requires c = let w = well _ c.requires.0 in let s = w.size in omega arith

pub returns-then-count-lt6 : goal.returns-then-count-lt6
returns-then-count-lt6 c =
    let w' = (goal.at.returns-then-count-lt6 c).After-read_u16-count in
    let l = held w' in
    let e = c.read_u16-count.ensures in
    let w = wanted_short (bytes_in (memory w')) (omega arith) in
    (sym w, omega arith, omega arith)

pub returns-then-count-lt-RESPONSE_LEAST : goal.returns-then-count-lt-RESPONSE_LEAST
returns-then-count-lt-RESPONSE_LEAST c =
    let w' = (goal.at.returns-then-count-lt-RESPONSE_LEAST c).After-read_u16-count in
    let l = held w' in
    let e = c.read_u16-count.ensures in
    let w = wanted_header (bytes_in (memory w')) (omega arith) (omega arith) in
    (sym w, omega arith, omega arith)

pub slice_bounds-read_response-end : goal.slice_bounds-read_response-end
slice_bounds-read_response-end c =
    let w' = (goal.at.slice_bounds-read_response-end c).After-read_u16-count in
    let w = is_well w' in
    let s = w.size in
    let f = w.few in
    let e = c.read_u16-count.ensures in
    search rules

pub returns : goal.returns
returns c =
    let w' = (goal.at.returns c).After-read_u16-count in
    let m : List ℕ = memory w' in
    let l = held w' in
    let e = c.read_u16-count.ensures in
    let there : response_least ≤ length (bytes_in m) = omega arith in
    let w = wanted_body (bytes_in m) there in
    let v = wants w' in
    let more = v.more in
    let few = v.few in
    let n = ap (λ (x : ResponseHeader). x.content_length) (c.read_response-h.ensures ∙ ap response_of (held_part m _ c.read_u16-count.ensures)) in
    let same : response_least + c.read_response-h.result.content_length ≡ wanted_of (bytes_in m) = omega arith in
    (same, omega arith, omega arith)
