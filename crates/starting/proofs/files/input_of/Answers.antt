use borrow.Author.Rules.{rules}
use Rattle.starting.proofs.ReadLaws.{input_failed, size_fits, input_some, input_full}
use Rattle.starting.proofs.files.input_of.Goals as goal

pub returns-then-got-lt0 : goal.returns-then-got-lt0
returns-then-got-lt0 c = let start = c in input_failed _ _ start.ranges.got c.if-got-lt0.true

pub overflow_cast-size : goal.overflow_cast-size
overflow_cast-size c = let start = c in size_fits start.args.got start.ranges.got c.if-got-lt0.false

pub returns-then-size-buffer : goal.returns-then-size-buffer
returns-then-size-buffer c =
    let less = c in
    let more = less in
    let start = more in
    input_some start.args.got start.ranges.got more.if-got-lt0.false _ less.if-size-buffer.true c.size_input.ensures

pub returns : goal.returns
returns c =
    let full = c in
    let more = full in
    let start = more in
    input_full start.args.got start.ranges.got more.if-got-lt0.false _ full.if-size-buffer.false c.size_input-2.ensures
