use Rattle.std.proofs.Common.{◌≡◌}
use Rattle.path_search.proofs.WritingLemmas.{after_parts}
use Rattle.path_search.proofs.segments.add_segments.Given as goal

abbrev pub invariant-segments : goal.invariant-segments
invariant-segments l = l.path.items ≡ after_parts l.initial.path.items l.yielded
