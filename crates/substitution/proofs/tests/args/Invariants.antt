use Rattle.hide_sets.specs.Sets.{Sets}
use Rattle.substitution.specs.Calls.{AreArgs}
use Rattle.substitution.proofs.tests.args.Given as goal

abbrev pub invariant-rows : goal.invariant-rows
invariant-rows l = (sets : Sets) → AreArgs sets l.args.items
