use Rattle.std.proofs.Common.{length}
use Rattle.std.specs.Vec.Iter.{into_iter_items}
use Rattle.substitution.proofs.OptionalLemmas.{Stripping}
use Rattle.substitution.proofs.optional.without_placemarkers.Given as goal

abbrev pub invariant-items : goal.invariant-items
invariant-items l = Stripping l.fn.items.items l.marked.items (into_iter_items l.rest)

abbrev pub decreases-items : goal.decreases-items
decreases-items l = length (into_iter_items l.rest)
