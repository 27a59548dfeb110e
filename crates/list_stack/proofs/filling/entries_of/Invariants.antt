use Rattle.std.proofs.Common.{◌≡◌, ◌++◌, length}
use Rattle.list_stack.specs.Places.{AreLinked, tokens}
use Rattle.list_stack.proofs.filling.entries_of.Given as goal

abbrev pub invariant-left : goal.invariant-left
invariant-left l = AreLinked l.entries.items × (l.left.items ++ tokens l.entries.items ≡ l.fn.list.items)

abbrev pub decreases-left : goal.decreases-left
decreases-left l = length l.left.items
