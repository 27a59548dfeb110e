use Rattle.made_scan.proofs.JobLists.{AreJobsBefore}
use Rattle.made_scan.proofs.jobs.made_jobs.Given as goal

abbrev pub invariant-loop-unit : goal.invariant-loop-unit
invariant-loop-unit l = AreJobsBefore l.unit l.jobs.items
