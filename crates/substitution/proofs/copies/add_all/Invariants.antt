use Rattle.std.proofs.Common.{map, take}
use Rattle.hide_sets.specs.Sets.{Sets}
use Rattle.scan_model.specs.Substitution as subst
use Rattle.substitution.specs.Meaning.{all_marked_of, AreMarked}
use Rattle.substitution.specs.Calls.{Adds}
use Rattle.substitution.proofs.copies.add_all.Given as goal

-- the first tokens are added
abbrev pub invariant-marked : goal.invariant-marked
invariant-marked l = (sets : Sets) → AreMarked sets l.marked → Adds sets l.initial.items.items l.items.items (map subst.Operand (all_marked_of sets (take l.i l.marked)))
