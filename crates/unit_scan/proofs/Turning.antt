-- One turn of a unit.
use Rattle.std.proofs.Common.{◌≡◌, false, [], sym, subst}
use Rattle.scan_model.specs.State.{Setup}
use Rattle.unit_steps.specs.UnitView.{Phase, Runs, Asks, Over, Spent, IsOver, is_over, BeginsLooks}
use Rattle.unit_scan.specs.declared.parts.Run.{Run}
use Rattle.unit_scan.specs.declared.stage.Stage.{Stage}
use Rattle.unit_scan.specs.Parts.{answers_of, told}
use Rattle.unit_scan.specs.Standing.{Standing}
use Rattle.unit_scan.proofs.Fitting.{stage_begins}

pub over_not : (phase : Phase) → is_over phase ≡ false → IsOver phase → ⊥
over_not Runs h over = over
over_not (Asks path) h over = over
over_not (Over end) h over = cc
over_not Spent h over = cc

-- without memory its answers still begin what is looked at
pub spent_stands : (setup : Setup) (run run' : Run) (stage : Stage) → Standing setup run stage → run'.log.items ≡ run.log.items → BeginsLooks setup.settings setup.command (told run') []
spent_stands setup run run' stage h same = subst (λ z. BeginsLooks setup.settings setup.command (answers_of z) []) (sym same) (stage_begins setup run stage h)
