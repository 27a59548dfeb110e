use Rattle.scanner.proofs.PlanLemmas.{JobsSoFar}
use Rattle.scanner.proofs.verdict.jobs_of.Given as goal

abbrev pub invariant-entries : goal.invariant-entries
invariant-entries l = JobsSoFar l.entries l.entry-index l.jobs.items
