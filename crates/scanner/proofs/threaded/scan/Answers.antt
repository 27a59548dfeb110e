use Rattle.std.proofs.Common.{arith}
use Rattle.scanner.proofs.PlanLemmas.{few_ends}
use Rattle.scanner.proofs.threaded.scan.Goals as goal

pub print_document-requires-clause-few : goal.print_document-requires-clause-few
print_document-requires-clause-few g c =
    let ends = rw c.in-Ok.is at c.scan_all-ends.ensures.ends in
    let few = few_ends _ _ c.args.plan.now.jobs _ ends c.requires.fits.few in
    omega (arith, few)
