use Rattle.std.proofs.Common.{◌∙◌, sym}
use Rattle.scanner.proofs.PlanLemmas.{PlanFits-of}
use Rattle.scanner.proofs.verdict.of_database.Goals as goal

pub returns-in_ok-jobs-in-Ok-clause-fits : goal.returns-in_ok-jobs-in-Ok-clause-fits
returns-in_ok-jobs-in-Ok-clause-fits c =
    PlanFits-of c.args.bytes.now _ _ c.args.manner (sym c.in-Ok.is ∙ c.in_ok-entries.ensures) (rw c.as_slice.ensures at c.in_ok-jobs-in-Ok.ensures.jobs) c.in_ok-jobs-in-Ok.ensures.fits c.requires
