use Rattle.std.proofs.Common.{arith}
use Rattle.scanner.proofs.MadeLemmas.{few_made_ends}
use Rattle.scanner.proofs.made.print_scan.Goals as goal

pub print_summary-requires-clause-few : goal.print_summary-requires-clause-few
print_summary-requires-clause-few g c =
    let ends = rw c.in-Ok.is at c.requires.ends in
    let few = few_made_ends _ _ _ ends c.requires.units in
    omega (arith, few)
