-- What an answer makes of what the unit does next.
use Rattle.std.specs.Prelude.{ℕ, ◌^◌}
use Rattle.scan_model.specs.declared.unit_end.UnitEnd.TheVariants as Ends
use Rattle.scan_model.specs.declared.outcome.Outcome.{Outcome}
use Rattle.scan_model.specs.declared.outcome.Outcome.TheVariants as OutcomeIs
use Rattle.scan_model.specs.Files.{Present, Absent, Failed, Big, NoMemory}
use Rattle.unit_laws.specs.Reduction.{Given}
use Rattle.unit_scan.specs.declared.stage.Lookup.{Lookup}
use Rattle.unit_scan.specs.declared.stage.Stage.{Stage}
use Rattle.unit_scan.specs.declared.stage.Stage.TheVariants as StageIs

abbrev pub stage_after : Lookup → Given → Stage
stage_after lookup NoMemory = StageIs.Over Ends.NoMemory
stage_after lookup content = StageIs.Answered lookup

-- what is left of a unit that begins is below this
abbrev pub rank_limit : ℕ
rank_limit = 2 ^ 280

abbrev pub outcome_of : Given → Outcome
outcome_of (Present ls) = OutcomeIs.Present
outcome_of Absent = OutcomeIs.Absent
outcome_of Failed = OutcomeIs.Failed
outcome_of Big = OutcomeIs.Big
outcome_of NoMemory = OutcomeIs.NoMemory
