use Rattle.shared_cache.specs.Callers.{seen_by}
use Rattle.worker.proofs.Running.{refused_end}
use Rattle.worker.proofs.units.end_of_job.Goals as goal

pub returns-in-Refused-clause-end : goal.returns-in-Refused-clause-end
returns-in-Refused-clause-end g c = refused_end c.args.settings.now c.args.job.now (seen_by c.args.passes.now) c.in-Refused.fault c.in-Refused.is
