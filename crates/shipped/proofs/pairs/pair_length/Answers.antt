use Rattle.std.proofs.Common.{◌≡◌, sym, ap, ap₂, ◌∙◌, ℕ, ◌+◌, List, None, Some, drop, arith, rules}
use lib.ListN.{length-drop}
use Rattle.wire.proofs.BufferLaws.{lent}
use Rattle.records.specs.Records.{record_length}
use Rattle.shipped.specs.code.Pairs.{data_length, behind}
use Rattle.shipped.proofs.PairLaws.{name_told, name_not, name_room, data_told, data_not, data_room, pair_unnamed, pair_bare, pair_there}
use Rattle.shipped.proofs.pairs.pair_length.Goals as goal

pub returns-in_err-n : goal.returns-in_err-n
returns-in_err-n c =
    let none : c.from_residual.result ≡ None = search rules in
    none ∙ sym (pair_unnamed c.args.bytes.now (name_not c.args.bytes.now (sym c.in_err-n.was ∙ c.name_length.ensures)))

pub slice_bounds-data_length-count : goal.slice_bounds-data_length-count
slice_bounds-data_length-count c =
    let name = name_told c.args.bytes.now (sym c.in_ok-n.was ∙ c.name_length.ensures) in
    omega (arith, name.1, name_room c.args.bytes.now name.0)

pub slice_bounds-data_length-start : goal.slice_bounds-data_length-start
slice_bounds-data_length-start c =
    let name = name_told c.args.bytes.now (sym c.in_ok-n.was ∙ c.name_length.ensures) in
    omega (arith, name.1, name_room c.args.bytes.now name.0)

pub returns-in_err-d : goal.returns-in_err-d
returns-in_err-d c =
    let bytes : List ℕ = c.args.bytes.now in
    let name = name_told bytes (sym c.in_ok-n.was ∙ c.name_length.ensures) in
    let rest = ap data_length (lent c.in_ok-n.n bytes ∙ ap (λ (k : ℕ). drop k bytes) name.1) in
    let none : c.from_residual-in_err-d.result ≡ None = search rules in
    none ∙ sym (pair_bare bytes name.0 (data_not (behind bytes) (sym c.in_err-d.was ∙ c.data_length.ensures ∙ rest)))

pub overflow_add-result : goal.overflow_add-result
overflow_add-result c =
    let bytes : List ℕ = c.args.bytes.now in
    let name = name_told bytes (sym c.in_ok-n.was ∙ c.name_length.ensures) in
    let rest = ap data_length (lent c.in_ok-n.n bytes ∙ ap (λ (k : ℕ). drop k bytes) name.1) in
    let data' = data_told (behind bytes) (sym c.in_ok-d.was ∙ c.data_length.ensures ∙ rest) in
    omega (arith, name.1, data'.1, name_room bytes name.0, data_room (behind bytes) data'.0, length-drop (record_length bytes) bytes)

pub returns : goal.returns
returns c =
    let bytes : List ℕ = c.args.bytes.now in
    let name = name_told bytes (sym c.in_ok-n.was ∙ c.name_length.ensures) in
    let rest = ap data_length (lent c.in_ok-n.n bytes ∙ ap (λ (k : ℕ). drop k bytes) name.1) in
    let data' = data_told (behind bytes) (sym c.in_ok-d.was ∙ c.data_length.ensures ∙ rest) in
    ap₂ (λ (n d : ℕ). Some (n + d)) name.1 data'.1 ∙ sym (pair_there bytes name.0 data'.0)
