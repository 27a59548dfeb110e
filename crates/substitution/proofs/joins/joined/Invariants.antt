use Rattle.std.proofs.Common.{length}
use Rattle.std.specs.Vec.Iter.{into_iter_items}
use Rattle.substitution.proofs.JoinLemmas.{Joining}
use Rattle.substitution.proofs.joins.joined.Given as goal

abbrev pub invariant-items : goal.invariant-items
invariant-items l = Joining l.initial.sets l.sets l.fn.items.items l.done.items l.left (into_iter_items l.rest)

abbrev pub decreases-items : goal.decreases-items
decreases-items l = length (into_iter_items l.rest)
