use Prim.Native.Nat.{ℕ, ◌+◌}
use mathlib.Core.Path.{◌≡◌, sym, ap, subst, ◌∙◌}
use mathlib.Core.List.{[]}
use Rattle.wire.specs.Request.{magic_number, magic, header_size}
use Rattle.wire.specs.Response.{response_header_size, response_least}
use Rattle.wire.specs.declared.response.ResponseHeader.{ResponseHeader}
use Rattle.client_responses.specs.State.{asked_in}
use Rattle.client_responses.specs.code.Looked.{Run}
use Rattle.client_responses.proofs.FoundLaws.{run_six, run_header, run_whole}
use Rattle.client_responses.proofs.look.first_run.Goals as goal
use Rattle.client_responses.proofs.look.first_run.Goals.{After-check_header}

magic_right : (c : After-check_header) → magic c.args.chunk.now ≡ magic_number
magic_right c = sym c.read_u32.ensures ∙ c.if-read_u32-ne-MAGIC.false

size_right : (c : After-check_header) → header_size c.args.chunk.now ≡ response_header_size
size_right c = sym c.read_u16.ensures ∙ c.if-read_u16-ne-RESPONSE_HEADER_SIZE.false

pub returns-then-chunk-lt-RESPONSE_LEAST : goal.returns-then-chunk-lt-RESPONSE_LEAST
returns-then-chunk-lt-RESPONSE_LEAST c = run_six _ _

pub returns-then-read_u32-ne-MAGIC : goal.returns-then-read_u32-ne-MAGIC
returns-then-read_u32-ne-MAGIC c = run_six _ _

pub returns-then-read_u16-ne-RESPONSE_HEADER_SIZE : goal.returns-then-read_u16-ne-RESPONSE_HEADER_SIZE
returns-then-read_u16-ne-RESPONSE_HEADER_SIZE c = run_six _ _

pub returns-in-Err : goal.returns-in-Err
returns-in-Err c =
    let w = (goal.at.returns-in-Err c).After-check_header in
    run_header (asked_in w.args.memory.now) w.args.chunk.now (magic_right w) (size_right w)

pub returns-in-Ok : goal.returns-in-Ok
returns-in-Ok c =
    let w = (goal.at.returns-in-Ok c).After-check_header in
    let n = ap (λ (h : ResponseHeader). response_least + h.content_length) (sym c.read_response-h.ensures) in
    subst (λ (x : ℕ). Run (asked_in w.args.memory.now) [] w.args.chunk.now x) n
    (run_whole (asked_in w.args.memory.now) w.args.chunk.now (magic_right w) (size_right w) (sym (rw (c.asked_in.ensures, c.read_response-h.ensures) at c.in-Ok.ensures)))
