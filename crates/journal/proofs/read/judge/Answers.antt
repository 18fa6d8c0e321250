use native.Mathlib.Omega.{arith}
use Rattle.journal.proofs.StepLaws.{judge_crc, judge_long, judge_front}
use Rattle.journal.proofs.read.judge.Goals as goal

pub returns-then-register-ne-RESIDUE : goal.returns-then-register-ne-RESIDUE
returns-then-register-ne-RESIDUE c =
    judge_crc c.args.registry.now c.args.register c.args.front.now c.if-register-ne-RESIDUE.true

pub returns-then-n-gt-VALUE_MOST : goal.returns-then-n-gt-VALUE_MOST
returns-then-n-gt-VALUE_MOST c =
    let n = c.read_u16.ensures in
    let f = c.from-n.ensures in
    let t = c.if-n-gt-VALUE_MOST.true in
    judge_long c.args.registry.now c.args.register c.args.front.now c.if-register-ne-RESIDUE.false (omega arith)

pub returns : goal.returns
returns c =
    let n = c.read_u16.ensures in
    let f = c.from-n.ensures in
    judge_front c.args.registry.now c.args.register c.args.front.now c.if-register-ne-RESIDUE.false c.requires.0 _ (omega arith) c.if-n-gt-VALUE_MOST.false _ c.replay.ensures
