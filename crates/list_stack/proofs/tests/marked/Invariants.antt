use Rattle.hide_sets.specs.Sets.{Sets}
use Rattle.substitution.specs.Meaning.{AreMarked}
use Rattle.list_stack.proofs.tests.marked.Given as goal

abbrev pub invariant-words : goal.invariant-words
invariant-words l = (sets : Sets) → AreMarked sets l.marked.items
