use Rattle.hide_sets.specs.Sets.{IsSet, hides_of, Extends}
use Rattle.hide_sets.proofs.Merging.{Meeting}
use Rattle.hide_sets.proofs.table.HideSets.common.Given as goal

abbrev pub invariant-names : goal.invariant-names
invariant-names l =
    record {
      extended : Extends l.initial.self l.self;
      at_is_set : IsSet l.initial.self l.at;
      made_is_set : IsSet l.self l.made;
      meeting : Meeting (hides_of l.initial.self l.fn.first) (hides_of l.initial.self l.second) (hides_of l.self l.made) (hides_of l.initial.self l.shared) (hides_of l.initial.self l.at);
    }

abbrev pub decreases-names : goal.decreases-names
decreases-names l = l.at
