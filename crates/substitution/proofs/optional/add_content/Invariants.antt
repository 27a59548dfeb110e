use Rattle.std.proofs.Common.{length}
use Rattle.std.specs.Vec.Iter.{into_iter_items}
use Rattle.hide_sets.specs.Sets.{Sets}
use Rattle.substitution.specs.Meaning.{AreItems}
use Rattle.substitution.proofs.OptionalLemmas.{Spacing}
use Rattle.substitution.proofs.optional.add_content.Given as goal

abbrev pub invariant-items : goal.invariant-items
invariant-items l = (sets : Sets) → AreItems sets l.fn.content.items → Spacing sets l.initial.items.items l.items.items l.fn.content.items (into_iter_items l.rest) l.space l.first

abbrev pub decreases-items : goal.decreases-items
decreases-items l = length (into_iter_items l.rest)
