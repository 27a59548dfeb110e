use Rattle.list_stack.proofs.PlaceLemmas.{Searching}
use Rattle.list_stack.proofs.cuts.next_comma.Given as goal

abbrev pub invariant-at : goal.invariant-at
invariant-at l = Searching l.floor l.end l.entries l.at

abbrev pub decreases-at : goal.decreases-at
decreases-at l = l.at
