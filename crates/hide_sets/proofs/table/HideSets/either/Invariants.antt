use Rattle.std.proofs.Common.{◌+◌}
use Rattle.hide_sets.specs.Sets.{IsSet, hides_of, Extends}
use Rattle.hide_sets.proofs.Merging.{Uniting}
use Rattle.hide_sets.proofs.table.HideSets.either.Given as goal

abbrev pub invariant-names : goal.invariant-names
invariant-names l =
    record {
      extended : Extends l.initial.self l.self;
      left_is_set : IsSet l.initial.self l.left;
      right_is_set : IsSet l.initial.self l.right;
      made_is_set : IsSet l.self l.made;
      uniting : Uniting (hides_of l.initial.self l.first) (hides_of l.initial.self l.fn.second) (hides_of l.self l.made) (hides_of l.initial.self l.left) (hides_of l.initial.self l.right);
    }

abbrev pub decreases-names : goal.decreases-names
decreases-names l = l.left + l.right
