-- What one run of the scanner leaves: the theorem of its two calls.
use Rattle.std.specs.Prelude.{◌≡◌, ◌⊎◌, ℕ, List, Option, Some, None, codes}
use Rattle.scan_model.specs.declared.outcome.Outcome.{Outcome}
use Rattle.scan_model.specs.declared.unit_end.UnitEnd.{UnitEnd}
use Rattle.scan_model.specs.Files.{FileMap}
use Rattle.shard_cache.specs.Rows.{ShardView, all_rows}
use Rattle.shard_cache.specs.StoreMap.{file_map, HaveRows, IsUntouched}
use Rattle.shard_cache.specs.Ends.{AreEnds, IsLookedAt}
use Rattle.p1689_writer.specs.Document.{document}
use Rattle.report.specs.Counts.{summary}
use Rattle.scheduler.specs.Order.{HaveMemory}
use Rattle.made_scan.specs.MadeScans.{AreMadeEnds, IsPathCount}
use Rattle.scanner.specs.declared.refusal.Refusal.{Refusal}
use Rattle.scanner.specs.declared.status.Status.TheVariants as Statuses
use Rattle.scanner.specs.declared.verdict.Plan.{Plan}
use Rattle.scanner.specs.declared.verdict.MadePlan.{MadePlan}
use Rattle.scanner.specs.declared.verdict.Verdict.{Verdict}
use Rattle.scanner.specs.declared.verdict.Verdict.TheVariants.{Refuse, Scan, Make}
use Rattle.scanner.specs.Statuses.{number}
use Rattle.scanner.specs.Refusals.{refused_status, text_of}
use Rattle.scanner.specs.Sinks.{Change, GotNothing, GotPut}
use Rattle.scanner.specs.Printed.{IsPrinted}

-- ## The forms of a run

-- the run found no memory, which was told to the error output
pub record IsToldNoMemory (err : Change) (status : ℕ) : Type 0 where
  pub status_is : status ≡ number Statuses.NoMemory
  pub told : GotPut (codes "no memory\n") err

-- the run as a whole found no memory
pub record IsOutOfMemory (out err : Change) (status : ℕ) : Type 0 where
  pub nothing_put : GotNothing out
  pub told : IsToldNoMemory err status

abbrev pub IsPrintedUnlessNoMemory : List ℕ → List UnitEnd → Change → Change → ℕ → Type 0
IsPrintedUnlessNoMemory text ends out err status = IsOutOfMemory out err status ⊎ IsPrinted text ends out err status

-- a refusal's text was put to the error output, or the run found no memory
abbrev pub IsRefusedOr : Refusal → Change → ℕ → Type 0
IsRefusedOr refusal err status =
    ((status ≡ number (refused_status refusal)) × GotPut (text_of refusal) err) ⊎ IsToldNoMemory err status

-- the run was refused: its text was put to the error output, and no file was asked for
pub record IsRefused {S O G : Type 0} (refusal : Refusal) (shards : List (ShardView S O G)) (out err : Change) (status : ℕ) : Type 0 where
  pub status_is : status ≡ number (refused_status refusal)
  pub nothing_put : GotNothing out
  pub told : GotPut (text_of refusal) err
  pub untouched : IsUntouched shards

-- The commands were scanned: each has its end over the map of the rows, each path that was asked for has its row, and the
-- ends were printed.
pub record IsScanned {S O G : Type 0} (outcome : G → Outcome) (bytes : G → List ℕ) (plan : Plan) (shards : List (ShardView S O G)) (out err : Change) (status : ℕ) : Type 0 where
  pub ends : List UnitEnd
  pub are_ends : AreEnds (file_map outcome bytes (all_rows shards)) plan.manner.settings plan.jobs ends
  pub have_rows : HaveRows shards
  pub printed : IsPrinted (document ends) ends out err status

-- Each unit of the made tree has its end over the tree's files, and the summary of the ends was printed, with the number
-- of the different paths that the units look at.
pub record IsSummed (plan : MadePlan) (out err : Change) (status : ℕ) : Type 0 where
  pub ends : List UnitEnd
  pub paths : ℕ
  pub are_ends : AreMadeEnds plan.units plan.manner.settings ends
  pub counted : HaveMemory ends → IsPathCount plan.units plan.manner.settings paths
  pub printed : IsPrinted (summary ends paths) ends out err status

abbrev pub IsSummedUnlessNoMemory : MadePlan → Change → Change → ℕ → Type 0
IsSummedUnlessNoMemory plan out err status = IsOutOfMemory out err status ⊎ IsSummed plan out err status

-- the made tree was scanned, and no file outside was asked for
pub record IsMade {S O G : Type 0} (plan : MadePlan) (shards : List (ShardView S O G)) (out err : Change) (status : ℕ) : Type 0 where
  pub summed : IsSummed plan out err status
  pub untouched : IsUntouched shards

abbrev pub IsDecided : {S O G : Type 0} → (G → Outcome) → (G → List ℕ) → Option Verdict → List (ShardView S O G) → Change → Change → ℕ → Type 0
IsDecided outcome bytes None shards out err status = ⊥
IsDecided outcome bytes (Some (Refuse refusal)) shards out err status = IsRefused refusal shards out err status
IsDecided outcome bytes (Some (Scan plan)) shards out err status = IsScanned outcome bytes plan shards out err status
IsDecided outcome bytes (Some (Make plan)) shards out err status = IsMade plan shards out err status

-- a run does what its verdict says, unless it finds no memory
abbrev pub IsRun : {S O G : Type 0} → (G → Outcome) → (G → List ℕ) → Option Verdict → List (ShardView S O G) → Change → Change → ℕ → Type 0
IsRun outcome bytes verdict shards out err status =
    IsOutOfMemory out err status ⊎ IsDecided outcome bytes verdict shards out err status

-- ## The questions

-- a path that a run may ask for: some command of the plan looks at it
abbrev pub IsSought : FileMap (List ℕ) → Option Verdict → List ℕ → Type 0
IsSought files None path = ⊥
IsSought files (Some (Refuse refusal)) path = ⊥
IsSought files (Some (Scan plan)) path = IsLookedAt files plan.manner.settings plan.jobs path
IsSought files (Some (Make plan)) path = ⊥
