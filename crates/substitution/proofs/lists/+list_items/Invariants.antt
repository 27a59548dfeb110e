use Rattle.std.proofs.Common.{length}
use Rattle.substitution.proofs.ListLemmas.{Walking}
use Rattle.substitution.proofs.lists.+list_items.Given as goal

abbrev pub decreases-list_items : goal.decreases-list_items
decreases-list_items l = length l.list.now

abbrev pub invariant-parts : goal.invariant-parts
invariant-parts l = Walking l.initial.sets l.sets l.call l.list l.items.items l.pasted l.rest

abbrev pub decreases-parts : goal.decreases-parts
decreases-parts l = length l.rest
