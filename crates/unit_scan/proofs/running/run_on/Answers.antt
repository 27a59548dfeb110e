use Rattle.std.proofs.Common.{refl, arith}
use Rattle.unit_scan.proofs.running.run_on.Goals as goal

pub steps-init : goal.steps-init
steps-init c = record { holds = c.requires.holds; moves = c.requires.moves; same = refl; less = omega arith }
