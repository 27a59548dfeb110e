-- What a unit says of all whole files, by what it stands for.
use Rattle.std.proofs.Common.{[], refl}
use Rattle.std.specs.Prelude.{Some, None}
use Rattle.scan_model.specs.declared.unit_end.UnitEnd.TheVariants as Ends
use Rattle.scan_model.specs.State.{Setup}
use Rattle.unit_steps.specs.UnitView.{Asks, FitsPhase, BeginsLooks}
use Rattle.unit_steps.proofs.Looks.{runs_fits, answered_fits, asks_fits, over_fits, fits_begin}
use Rattle.unit_scan.specs.declared.parts.Run.{Run}
use Rattle.unit_scan.specs.declared.stage.FirstFile.TheVariants as FirstIs
use Rattle.unit_scan.specs.declared.stage.Lookup.TheVariants.{First}
use Rattle.unit_scan.specs.declared.stage.Stage.{Stage}
use Rattle.unit_scan.specs.declared.stage.Stage.TheVariants as StageIs
use Rattle.unit_scan.specs.Parts.{told, moment_of}
use Rattle.unit_scan.specs.Lookups.{first_path, paths_after}
use Rattle.unit_scan.specs.Standing.{Seeking, Standing, phase_of, search_now}

module _ (setup : Setup) (run : Run) where
  begins_fit : Seeking setup run (First FirstIs.Predefines) → BeginsLooks setup.settings setup.command (told run) []
  begins_fit h =
      let sought = search_now setup run (First FirstIs.Predefines) in
      let path = first_path setup FirstIs.Predefines in
      fits_begin setup.settings setup.command (told run) (Asks path)
      (asks_fits setup (moment_of setup run (Some sought)) (told run) sought path [] refl refl h.stands)

  pub stage_fits : (stage : Stage) → Standing setup run stage → FitsPhase setup.settings setup.command (told run) (phase_of setup run stage)
  stage_fits StageIs.Begins h = begins_fit h
  stage_fits StageIs.Runs h = runs_fits setup (moment_of setup run None) (told run) refl h.stands
  stage_fits (StageIs.Seeks lookup) h = absurd h
  stage_fits (StageIs.Tests t) h = absurd h
  stage_fits (StageIs.Asks lookup path) h =
      asks_fits setup (moment_of setup run (Some (search_now setup run lookup))) (told run) (search_now setup run lookup) path (paths_after setup lookup) refl h.paths h.stands
  stage_fits (StageIs.Answered lookup) h =
      answered_fits setup (moment_of setup run None) (told run) (search_now setup run lookup).aim (search_now setup run lookup).place h.1.0 (paths_after setup lookup) h.1.1.0 h.1.1.1.acts
  stage_fits StageIs.Recorded h = over_fits setup (Ends.Record run.state.builder.so_far) (told run) h
  stage_fits (StageIs.Over end) h = over_fits setup end (told run) h
  stage_fits StageIs.Spent h = h

  -- its answers begin what is looked at
  pub stage_begins : (stage : Stage) → Standing setup run stage → BeginsLooks setup.settings setup.command (told run) []
  stage_begins stage h = fits_begin setup.settings setup.command (told run) (phase_of setup run stage) (stage_fits stage h)
