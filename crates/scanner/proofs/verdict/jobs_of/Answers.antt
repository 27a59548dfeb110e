use Rattle.std.proofs.Common.{arith}
use Rattle.scanner.proofs.PlanLemmas.{JobsSoFar-more}
use Rattle.scanner.proofs.verdict.jobs_of.Goals as goal

pub entries-preserved : goal.entries-preserved
entries-preserved c =
    JobsSoFar-more c.args.entries.now c.entries.entry-index c.entry-item.result _ c.entries.jobs.items _ (omega arith) c.entry-item.is c.in_ok-job.ensures.reads c.in_ok-job.ensures.fits c.in_ok-push.ensures.items c.entries.invariant
