use Rattle.std.proofs.Common.{◌≡◌, ◌++◌, length}
use Rattle.std.specs.Prelude.{reverse}
use Rattle.list_stack.proofs.cuts.with_places.Given as goal

abbrev pub invariant-left : goal.invariant-left
invariant-left l = l.left.items ++ reverse l.all.items ≡ l.fn.places.items ++ reverse l.fn.ends.items

abbrev pub decreases-left : goal.decreases-left
decreases-left l = length l.left.items
