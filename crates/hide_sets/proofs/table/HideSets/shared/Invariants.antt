use Rattle.std.proofs.Common.{◌+◌}
use Rattle.hide_sets.specs.Sets.{IsSet, hides_of}
use Rattle.hide_sets.proofs.Merging.{Within}
use Rattle.hide_sets.proofs.table.HideSets.shared.Given as goal

-- each of the two is one of the sets that it was made from
abbrev pub invariant-names : goal.invariant-names
invariant-names l =
    record {
      left_is_set : IsSet l.self l.left;
      right_is_set : IsSet l.self l.right;
      left : Within (hides_of l.self l.left) (hides_of l.self l.fn.first);
      right : Within (hides_of l.self l.right) (hides_of l.self l.fn.second);
    }

abbrev pub decreases-names : goal.decreases-names
decreases-names l = l.left + l.right
