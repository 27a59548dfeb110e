-- The steps of a unit, one after another.
use Rattle.std.proofs.Common.{◌≡◌, ℕ, ◌+◌, ◌*◌, ◌<◌, ◌≤◌, false, sym, subst}
use Rattle.scan_model.specs.State.{Setup}
use Rattle.std.specs.declared.result.Result.TheVariants.{Ok}
use Rattle.scan_model.specs.declared.unit_end.UnitEnd.TheVariants as Ends
use Rattle.unit_steps.specs.UnitView.{UnitView, IsReady, is_over, Over, Spent}
use Rattle.unit_steps.specs.Work.{rank}
use Rattle.unit_scan.specs.Turns.{Turns}
use Rattle.unit_scan.specs.declared.parts.Run.{Run}
use Rattle.unit_scan.specs.declared.stage.FirstFile.TheVariants as FirstIs
use Rattle.unit_scan.specs.declared.stage.Stage.{Stage}
use Rattle.unit_scan.specs.declared.stage.Stage.TheVariants as StageIs
use Rattle.unit_scan.specs.Parts.{told, work_of}
use Rattle.unit_scan.specs.Standing.{Holds, Standing, Arrives, IsMoving, phase_of, turn_at}

-- ## Between two turns

pub standing_holds : (setup : Setup) (run : Run) (stage : Stage) → Standing setup run stage → Holds setup run stage
standing_holds setup run StageIs.Begins h = h
standing_holds setup run StageIs.Runs h = h
standing_holds setup run (StageIs.Seeks lookup) h = absurd h
standing_holds setup run (StageIs.Tests t) h = absurd h
standing_holds setup run (StageIs.Asks lookup path) h = h
standing_holds setup run (StageIs.Answered lookup) h = h
standing_holds setup run StageIs.Recorded h = h
standing_holds setup run (StageIs.Over end) h = h
standing_holds setup run StageIs.Spent h = h

-- no path is waiting, and it isn't over
pub ready_moves : (setup : Setup) (run : Run) (stage : Stage) → IsReady (phase_of setup run stage) → is_over (phase_of setup run stage) ≡ false → IsMoving stage
ready_moves setup run StageIs.Begins ready over = tt
ready_moves setup run StageIs.Runs ready over = tt
ready_moves setup run (StageIs.Seeks lookup) ready over = tt
ready_moves setup run (StageIs.Tests t) ready over = tt
ready_moves setup run (StageIs.Asks lookup path) ready over = absurd ready
ready_moves setup run (StageIs.Answered lookup) ready over = tt
ready_moves setup run StageIs.Recorded ready over = cc
ready_moves setup run (StageIs.Over end) ready over = cc
ready_moves setup run StageIs.Spent ready over = cc

-- where the steps arrive, a turn is right
abbrev pub seen : Setup → Run → Stage → UnitView
seen setup run stage = record { command = setup.command; settings = setup.settings; answers = told run; phase = phase_of setup run stage; work = work_of setup run }

pub turn_right : (setup : Setup) (first run : Run) (stage : Stage) (old : UnitView) → old.work ≡ work_of setup first → Arrives setup first run stage → Turns old (seen setup run stage) (Ok (turn_at stage))
turn_right setup first run StageIs.Begins old same h = let no = h.stays in cc
turn_right setup first run StageIs.Runs old same h = let no = h.stays in cc
turn_right setup first run (StageIs.Seeks lookup) old same h = absurd h.stands
turn_right setup first run (StageIs.Tests t) old same h = absurd h.stands
turn_right setup first run (StageIs.Asks lookup path) old same h = (tt, subst (λ w. rank (work_of setup run) < rank w) (sym same) h.proceeds)
turn_right setup first run (StageIs.Answered lookup) old same h = let no = h.stays in cc
turn_right setup first run StageIs.Recorded old same h = (tt, λ e. let no : Over (Ends.Record run.state.builder.so_far) ≡ Spent = e in cc)
turn_right setup first run (StageIs.Over end) old same h = (tt, λ e. let no : Over end ≡ Spent = e in cc)
turn_right setup first run StageIs.Spent old same h = absurd h.proceeds
