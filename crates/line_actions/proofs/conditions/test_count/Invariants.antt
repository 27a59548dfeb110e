use Rattle.std.proofs.Common.{◌≡◌, ◌≤◌, ◌-◌, drop, length}
use Rattle.std.specs.Option.{option_map}
use Rattle.scan_model.specs.HeaderName.{terms}
use Rattle.if_values.specs.Known.{has_count}
use Rattle.if_values.proofs.WalkLemmas.{and_more}
use Rattle.line_actions.proofs.conditions.test_count.Given as goal

-- those that are counted, and those of the rest, are all
abbrev pub invariant-tests : goal.invariant-tests
invariant-tests l = record {
  place : l.from ≤ length l.toks;
  few : l.count ≤ l.from;
  left : option_map (and_more l.count) (terms (drop l.from l.toks)) ≡ option_map has_count (terms l.toks);
}

abbrev pub decreases-tests : goal.decreases-tests
decreases-tests l = length l.toks - l.from
