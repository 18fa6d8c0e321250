use mathlib.Core.Path.{◌≡◌}
use Prim.Native.Nat.{ℕ}
use native.Mathlib.Omega.{arith}
use Rattle.journal.proofs.OutcomeLaws.{say_border, say_waiting, say_crc, say_layout, say_other}
use Rattle.journal.proofs.read.say.Goals as goal

pub returns-in-0 : goal.returns-in-0
returns-in-0 c = say_border _ _ c.in-0.is c.if-p-eq0.true

pub returns-in-0-2 : goal.returns-in-0-2
returns-in-0-2 c = say_waiting _ _ c.in-0.is c.if-p-eq0.false

pub returns-in-1 : goal.returns-in-1
returns-in-1 c = say_crc c.args.p.fault c.args.p.count (λ e. omega (arith, c.in-1.is)) c.in-1.is

pub returns-in-2 : goal.returns-in-2
returns-in-2 c = say_layout c.args.p.fault c.args.p.count (λ e. omega (arith, c.in-2.is)) (λ e. omega (arith, c.in-2.is)) c.in-2.is

pub returns-in_default : goal.returns-in_default
returns-in_default c = say_other c.args.p.fault c.args.p.count (λ e. omega (arith, c)) (λ e. omega (arith, c)) (λ e. omega (arith, c))
