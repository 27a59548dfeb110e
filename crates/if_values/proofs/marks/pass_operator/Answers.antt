use Rattle.std.proofs.Common.{arith}
use Rattle.if_values.specs.Operators.{binary_of}
use Rattle.if_values.proofs.LevelLemmas.{pass-end, pass-none, pass-looser}
use Rattle.if_values.proofs.marks.pass_operator.Goals as goal

pub returns-in_err-item : goal.returns-in_err-item
returns-in_err-item c = rw c.from_residual.ensures (pass-end c.args.level c.args.at.now c.in_err-item.ensures)

pub returns-in_err-operator : goal.returns-in_err-operator
returns-in_err-operator c = rw c.from_residual-in_err-operator.ensures (pass-none c.args.level _ c.args.at.now c.in_ok-item.ensures c.in_err-operator.ensures)

pub returns-then-level : goal.returns-then-level
returns-then-level c = pass-looser c.args.level _ c.args.at.now (binary_of c.in_ok-operator.operator) c.in_ok-item.ensures c.in_ok-operator.ensures (omega (arith, c.level.ensures.value, c.if-level.true))
