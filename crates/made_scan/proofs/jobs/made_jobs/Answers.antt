use Rattle.std.proofs.Common.{arith}
use Rattle.made_scan.proofs.JobLists.{one_job_more, jobs_number}
use Rattle.made_scan.proofs.jobs.made_jobs.Goals as goal

pub loop-unit-preserved : goal.loop-unit-preserved
loop-unit-preserved c =
    one_job_more c.loop-unit.unit c.loop-unit.jobs.items _ c.in_ok-made_job.field-0 (omega arith) c.loop-unit.invariant c.in_ok-made_job.ensures.is c.in_ok-made_job.ensures.fits c.in_ok-push.ensures.items

pub returns-clause-number : goal.returns-clause-number
returns-clause-number c = let same = c.of_vec.ensures in rw same (jobs_number c.loop-unit.unit c.args.n c.loop-unit.jobs.items (omega arith) c.loop-unit.invariant)
