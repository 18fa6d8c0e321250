use Prim.Native.Nat.{ℕ, ◌+◌, ◌-◌, ◌≤◌}
use mathlib.Core.Path.{◌≡◌, sym, ap, ap₂, ◌∙◌}
use mathlib.Core.Bool.{true}
use mathlib.Core.List.{List}
use native.Mathlib.Omega.{arith}
use borrow.Author.Rules.{rules}
use lib.ListN.{length, take, drop}
use Rattle.wire.specs.Numbers.{field}
use Rattle.wire.specs.Request.{magic, header_size}
use Rattle.wire.specs.Response.{response_least, response_of}
use Rattle.client_responses.specs.Reading.{found_behind}
use Rattle.client_responses.specs.State.{count_at, bytes_at, asked_in, bytes_in, well_formed_state}
use Rattle.client_responses.proofs.StateLaws.{well}
use Rattle.client_responses.proofs.FoundLaws.{found_short, found_magic, found_size, found_header, found_whole}
use Rattle.wire.specs.declared.response.ResponseHeader.{ResponseHeader}
use Rattle.client_responses.proofs.LookLaws.{held_part, count_part, looked_waiting, looked_refused, looked_as}
use Rattle.client_responses.proofs.look.look.Goals as goal

module _ (m : List ℕ) (well_formed : well_formed_state m ≡ true) (count : ℕ) (count_is : count ≡ field count_at 2 m) where
  -- so many bytes are held
  held : length (bytes_in m) ≡ count
  held = (well m well_formed).long ∙ sym count_is

  magic_is : (r : ℕ) → r ≡ field 0 4 (take (bytes_at + count - bytes_at) (drop bytes_at m)) → r ≡ magic (bytes_in m)
  magic_is r e = e ∙ ap (field 0 4) (held_part m _ count_is)

  size_is : (r : ℕ) → r ≡ field 4 2 (take (bytes_at + count - bytes_at) (drop bytes_at m)) → r ≡ header_size (bytes_in m)
  size_is r e = e ∙ ap (field 4 2) (held_part m _ count_is)

pub read_u16-count-requires : goal.read_u16-count-requires
read_u16-count-requires c = let w = well _ c.requires in let s = w.size in omega arith

pub returns-then-count-lt6 : goal.returns-then-count-lt6
returns-then-count-lt6 c =
    let m : List ℕ = c.args.memory.now in
    let l = held m c.requires _ c.read_u16-count.ensures in
    looked_waiting m _ (found_short _ (bytes_in m) (omega arith))

pub slice_bounds-bytes-end : goal.slice_bounds-bytes-end
slice_bounds-bytes-end c =
    let w = well c.args.memory.now c.requires in
    let s = w.size in
    let f = w.few in
    let e = c.read_u16-count.ensures in
    search rules

pub returns-then-read_u32-ne-MAGIC : goal.returns-then-read_u32-ne-MAGIC
returns-then-read_u32-ne-MAGIC c =
    let m : List ℕ = c.args.memory.now in
    let l = held m c.requires _ c.read_u16-count.ensures in
    let its = magic_is m c.requires _ c.read_u16-count.ensures _ c.read_u32.ensures in
    looked_refused m _ _ (found_magic _ (bytes_in m) (omega arith) (λ e. c.if-read_u32-ne-MAGIC.true (its ∙ e)))

pub returns-then-read_u16-ne-RESPONSE_HEADER_SIZE : goal.returns-then-read_u16-ne-RESPONSE_HEADER_SIZE
returns-then-read_u16-ne-RESPONSE_HEADER_SIZE c =
    let m : List ℕ = c.args.memory.now in
    let l = held m c.requires _ c.read_u16-count.ensures in
    let its = magic_is m c.requires _ c.read_u16-count.ensures _ c.read_u32.ensures in
    let size = size_is m c.requires _ c.read_u16-count.ensures _ c.read_u16.ensures in
    looked_refused m _ _ (found_size _ (bytes_in m) (omega arith) (sym its ∙ c.if-read_u32-ne-MAGIC.false) (λ q. c.if-read_u16-ne-RESPONSE_HEADER_SIZE.true (size ∙ q)))

pub returns-then-count-lt-RESPONSE_LEAST : goal.returns-then-count-lt-RESPONSE_LEAST
returns-then-count-lt-RESPONSE_LEAST c =
    let m : List ℕ = c.args.memory.now in
    let l = held m c.requires _ c.read_u16-count.ensures in
    let its = magic_is m c.requires _ c.read_u16-count.ensures _ c.read_u32.ensures in
    let size = size_is m c.requires _ c.read_u16-count.ensures _ c.read_u16.ensures in
    looked_waiting m _ (found_header _ (bytes_in m) (omega arith) (sym its ∙ c.if-read_u32-ne-MAGIC.false) (sym size ∙ c.if-read_u16-ne-RESPONSE_HEADER_SIZE.false) (omega arith))

pub look_behind-requires : goal.look_behind-requires
look_behind-requires c =
    let w = well c.args.memory.now c.requires in
    let f = w.few in
    let e = c.read_u16-count.ensures in
    (w.size, omega arith)

pub returns : goal.returns
returns c =
    let m : List ℕ = c.args.memory.now in
    let count_is = c.read_u16-count.ensures in
    let l = held m c.requires _ count_is in
    let its = magic_is m c.requires _ count_is _ c.read_u32.ensures in
    let size = size_is m c.requires _ count_is _ c.read_u16.ensures in
    let there : response_least ≤ length (bytes_in m) = omega arith in
    let bytes_are : take c.read_u16-count.result (drop bytes_at m) ≡ bytes_in m = count_part m _ count_is in
    let header_is = c.read_response.ensures ∙ ap response_of (held_part m _ count_is) in
    looked_as m _ _ _ c.look_behind.ensures
    (found_whole (asked_in m) (bytes_in m) (omega arith) (sym its ∙ c.if-read_u32-ne-MAGIC.false) (sym size ∙ c.if-read_u16-ne-RESPONSE_HEADER_SIZE.false) there
    ∙ sym (ap₂ (λ (x : ResponseHeader) (y : List ℕ). found_behind (asked_in m) x y) header_is bytes_are))
