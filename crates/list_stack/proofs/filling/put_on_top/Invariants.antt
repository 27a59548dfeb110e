use Rattle.std.proofs.Common.{length}
use Rattle.list_stack.proofs.ListLemmas.{Topping}
use Rattle.list_stack.proofs.filling.put_on_top.Given as goal

abbrev pub invariant-left : goal.invariant-left
invariant-left l = Topping l.fn.sets l.sets l.added l.fn.list l.left.items l.fn.entries.items l.entries.items

abbrev pub decreases-left : goal.decreases-left
decreases-left l = length l.left.items
