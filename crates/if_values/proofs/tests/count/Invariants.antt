use Rattle.std.proofs.Common.{length}
use Rattle.if_values.proofs.KnownLemmas.{Counts}
use Rattle.if_values.proofs.tests.count.Given as goal

abbrev pub invariant-terms : goal.invariant-terms
invariant-terms l = Counts l.toks l.rest l.found

abbrev pub decreases-terms : goal.decreases-terms
decreases-terms l = length l.rest
