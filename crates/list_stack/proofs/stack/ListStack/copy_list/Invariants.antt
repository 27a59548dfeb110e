use Rattle.std.proofs.Common.{◌≡◌, ◌-◌, length, take}
use Rattle.list_stack.proofs.stack.ListStack.copy_list.Given as goal

abbrev pub invariant-list : goal.invariant-list
invariant-list l = l.list.items ≡ take (length l.list.items) l.self.first

abbrev pub decreases-list : goal.decreases-list
decreases-list l = length l.self.first - length l.list.items
