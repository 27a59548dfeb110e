use Rattle.std.proofs.Common.{true, false}
use Rattle.if_values.proofs.ValueLemmas.{whole-read, whole-none}
use Rattle.if_values.proofs.condition.whole.Goals as goal

pub returns-in-None : goal.returns-in-None
returns-in-None c = whole-none c.args.toks.now c.args.has.now c.new-left.result c.conditional.new.at c.new-left.ensures c.in-None.ensures.value

pub returns-then-is_none : goal.returns-then-is_none
returns-then-is_none c = whole-read c.args.toks.now c.args.has.now c.new-left.result c.conditional.new.at c.in-Some.condition c.peek.result true c.new-left.ensures c.in-Some.ensures.value c.peek.ensures c.if-is_none.ensures

pub returns-else-is_none : goal.returns-else-is_none
returns-else-is_none c = whole-read c.args.toks.now c.args.has.now c.new-left.result c.conditional.new.at c.in-Some.condition c.peek.result false c.new-left.ensures c.in-Some.ensures.value c.peek.ensures c.if-is_none.ensures
