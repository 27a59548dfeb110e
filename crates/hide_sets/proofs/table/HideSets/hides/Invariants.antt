use Rattle.std.proofs.Common.{◌≡◌}
use Rattle.hide_sets.specs.Sets.{IsSet, hides_of}
use Rattle.hide_sets.proofs.table.HideSets.hides.Given as goal

-- the names so far are none of the set's that is looked for
abbrev pub invariant-names : goal.invariant-names
invariant-names l = IsSet l.self l.at × (hides_of l.self l.at l.name ≡ hides_of l.self l.fn.set l.name)

abbrev pub decreases-names : goal.decreases-names
decreases-names l = l.at
