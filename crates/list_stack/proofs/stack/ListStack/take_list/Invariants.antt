use Rattle.std.proofs.Common.{◌≡◌, ◌++◌, length}
use Rattle.list_stack.proofs.stack.ListStack.take_list.Given as goal

abbrev pub invariant-list : goal.invariant-list
invariant-list l = (l.list.items ++ l.self.first ≡ l.fn.self.first) × (l.self.others ≡ l.fn.self.others)

abbrev pub decreases-list : goal.decreases-list
decreases-list l = length l.self.first
