use Rattle.list_stack.proofs.PlaceLemmas.{Cutting}
use Rattle.list_stack.proofs.cuts.commas.Given as goal

abbrev pub invariant-places : goal.invariant-places
invariant-places l = Cutting l.most l.floor l.entries l.places.items l.at

abbrev pub decreases-places : goal.decreases-places
decreases-places l = l.at
