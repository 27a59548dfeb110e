use Rattle.std.proofs.Common.{◌<◌, length, arith, ap, length-append}
use Rattle.std.specs.Prelude.{Some, None}
use Rattle.if_values.specs.Operators.{binary_of}
use Rattle.if_values.proofs.ClimbLemmas.{climbs-init, binary-none, climbs-step, climbs-fail, climbs-end, climbs-past, conditional-none, conditional-plain, conditional-no-chosen, conditional-no-colon, conditional-no-other, conditional-whole, unary-rows, first-has}
use Rattle.if_values.proofs.climb.+climb.Goals as goal

pub binary-returns-in_err-left-clause-value : goal.binary-returns-in_err-left-clause-value
binary-returns-in_err-left-clause-value t c = rw c.from_residual.ensures (binary-none c.args.level c.args.at.now c.unary.new.at c.unary.new.at c.in_err-left.ensures.value)

pub binary-operands-init : goal.binary-operands-init
binary-operands-init t c = climbs-init c.args.level c.args.at.now c.unary.new.at c.in_ok-left.left c.in_ok-left.ensures.value c.in_ok-left.ensures.shorter

pub binary-binary-requires : goal.binary-binary-requires
binary-binary-requires t c = let short : length c.pass_operator.new.at < length c.args.at.now = omega (arith, ap length c.in-Some.ensures.1, c.operands.invariant.shorter) in (omega arith, tt)

pub binary-returns-in_err-right-clause-value : goal.binary-returns-in_err-right-clause-value
binary-returns-in_err-right-clause-value t c =
    rw c.from_residual-in_err-right.ensures (climbs-fail c.args.level c.args.at.now c.operands.at c.pass_operator.new.at c.binary.new.at c.binary.new.at c.operands.left (binary_of c.in-Some.operator)
    c.operands.invariant c.in-Some.ensures (omega (arith, c.level.ensures.value, c.level.ensures.small)) (rw c.level.ensures.value at c.in_err-right.ensures.value))

pub binary-operands-smaller : goal.binary-operands-smaller
binary-operands-smaller t c = omega (arith, ap length c.in-Some.ensures.1, c.in_ok-right.ensures.shorter)

pub binary-operands-preserved : goal.binary-operands-preserved
binary-operands-preserved t c =
    rw c.infix-left.ensures (climbs-step c.args.level c.args.at.now c.operands.at c.pass_operator.new.at c.binary.new.at c.operands.left c.in_ok-right.right (binary_of c.in-Some.operator)
    c.operands.invariant c.in-Some.ensures (omega (arith, c.level.ensures.value, c.level.ensures.small)) (rw c.level.ensures.value at c.in_ok-right.ensures.value) c.in_ok-right.ensures.shorter (rw c.level.ensures.value at c.in_ok-right.ensures.past))

pub binary-returns-clause-value : goal.binary-returns-clause-value
binary-returns-clause-value t c = climbs-end c.args.level c.args.at.now c.operands.at c.pass_operator.new.at c.operands.left c.operands.invariant c.in_default.ensures

pub binary-returns-clause-past : goal.binary-returns-clause-past
binary-returns-clause-past t c = climbs-past c.args.level c.operands.at c.pass_operator.new.at c.in_default.ensures

pub conditional-binary-requires : goal.conditional-binary-requires
conditional-binary-requires t c = (omega arith, tt)

pub conditional-returns-in_err-condition-clause-value : goal.conditional-returns-in_err-condition-clause-value
conditional-returns-in_err-condition-clause-value t c = rw c.from_residual.ensures (conditional-none c.args.at.now c.binary.new.at c.binary.new.at c.in_err-condition.ensures.value)

pub conditional-returns-then-not-pass-clause-value : goal.conditional-returns-then-not-pass-clause-value
conditional-returns-then-not-pass-clause-value t c = conditional-plain c.args.at.now c.binary.new.at c.pass.new.at c.in_ok-condition.condition c.in_ok-condition.ensures.value c.if-not-pass.ensures

pub conditional-conditional-requires : goal.conditional-conditional-requires
conditional-conditional-requires t c = (omega (arith, ap length c.if-not-pass.ensures.1, c.in_ok-condition.ensures.shorter), tt)

pub conditional-returns-in_err-chosen-clause-value : goal.conditional-returns-in_err-chosen-clause-value
conditional-returns-in_err-chosen-clause-value t c = rw c.from_residual-in_err-chosen.ensures (conditional-no-chosen c.args.at.now c.binary.new.at c.pass.new.at c.conditional.new.at c.conditional.new.at c.in_ok-condition.condition c.in_ok-condition.ensures.value c.in_ok-condition.ensures.shorter c.if-not-pass.ensures c.in_err-chosen.ensures.value)

pub unary-returns-clause-value : goal.unary-returns-clause-value
unary-returns-clause-value t c = rw c.with_row.ensures (unary-rows c.args.at.now c.pass_row-row.result.now c.pass_row-row.new.self c.primary.new.at (Some c.in_ok-operand.operand) c.pass_row-row.ensures.row c.pass_row-row.ensures.all c.pass_row-row.ensures.ended c.in_ok-operand.ensures.value)

pub binary-returns-clause-shorter : goal.binary-returns-clause-shorter
binary-returns-clause-shorter t c = rw c.in_default.ensures.0 c.operands.invariant.shorter

pub conditional-returns-then-not-pass-2-clause-value : goal.conditional-returns-then-not-pass-2-clause-value
conditional-returns-then-not-pass-2-clause-value t c = conditional-no-colon c.args.at.now c.binary.new.at c.pass.new.at c.conditional.new.at c.pass-2.new.at c.pass-2.new.at c.in_ok-condition.condition c.in_ok-chosen.chosen c.in_ok-condition.ensures.value c.in_ok-condition.ensures.shorter c.if-not-pass.ensures c.in_ok-chosen.ensures.value c.if-not-pass-2.ensures

pub conditional-conditional-requires-2 : goal.conditional-conditional-requires-2
conditional-conditional-requires-2 t c = (omega (arith, ap length c.if-not-pass.ensures.1, ap length c.if-not-pass-2.ensures.1, c.in_ok-condition.ensures.shorter, c.in_ok-chosen.ensures.shorter), tt)

pub conditional-returns-in_err-other-clause-value : goal.conditional-returns-in_err-other-clause-value
conditional-returns-in_err-other-clause-value t c = rw c.from_residual-in_err-other.ensures (conditional-no-other c.args.at.now c.binary.new.at c.pass.new.at c.conditional.new.at c.pass-2.new.at c.conditional-2.new.at c.conditional-2.new.at c.in_ok-condition.condition c.in_ok-chosen.chosen c.in_ok-condition.ensures.value c.in_ok-condition.ensures.shorter c.if-not-pass.ensures c.in_ok-chosen.ensures.value c.in_ok-chosen.ensures.shorter c.if-not-pass-2.ensures c.in_err-other.ensures.value)

pub conditional-returns-clause-value : goal.conditional-returns-clause-value
conditional-returns-clause-value t c = rw c.choice.ensures (conditional-whole c.args.at.now c.binary.new.at c.pass.new.at c.conditional.new.at c.pass-2.new.at c.conditional-2.new.at c.in_ok-condition.condition c.in_ok-chosen.chosen c.in_ok-other.other c.in_ok-condition.ensures.value c.in_ok-condition.ensures.shorter c.if-not-pass.ensures c.in_ok-chosen.ensures.value c.in_ok-chosen.ensures.shorter c.if-not-pass-2.ensures c.in_ok-other.ensures.value)

pub in_parens-conditional-requires : goal.in_parens-conditional-requires
in_parens-conditional-requires t c = (omega arith, tt)

pub primary-in_parens-requires : goal.primary-in_parens-requires
primary-in_parens-requires t c = (omega (arith, ap length c.in-Some-Plain.ensures), tt)

pub primary-returns-in-Some-Has-clause-value : goal.primary-returns-in-Some-Has-clause-value
primary-returns-in-Some-Has-clause-value t c = rw c.known_leaf.ensures (first-has c.args.at.now c.next.new.self c.in-Some-Has.known (rw c.in-Some-Has.field-0-is at c.in-Some-Has.ensures))

pub unary-primary-requires : goal.unary-primary-requires
unary-primary-requires t c = (omega (arith, ap length c.pass_row-row.ensures.row, length-append c.pass_row-row.result.now c.pass_row-row.new.self), tt)

pub unary-returns-in_err-operand-clause-value : goal.unary-returns-in_err-operand-clause-value
unary-returns-in_err-operand-clause-value t c = rw c.from_residual.ensures (unary-rows c.args.at.now c.pass_row-row.result.now c.pass_row-row.new.self c.primary.new.at None c.pass_row-row.ensures.row c.pass_row-row.ensures.all c.pass_row-row.ensures.ended c.in_err-operand.ensures.value)
