-- The order of the rows that a run on one thread leaves.
use Rattle.std.specs.Prelude.{◌≢◌, ⊤, ℕ, List, Option, Some, None}
use Rattle.scan_model.specs.declared.outcome.Outcome.{Outcome}
use Rattle.shard_cache.specs.Rows.{ShardView, all_rows}
use Rattle.shard_cache.specs.StoreMap.{file_map}
use Rattle.scheduler.specs.Order.{IsInOrder}
use Rattle.scanner.specs.declared.status.Status.TheVariants.{NoMemory}
use Rattle.scanner.specs.declared.verdict.Verdict.{Verdict}
use Rattle.scanner.specs.declared.verdict.Verdict.TheVariants.{Refuse, Scan, Make}
use Rattle.scanner.specs.Statuses.{number}

-- where there is a plan for a database, the rows were added in the order in which its schedule publishes them
abbrev pub IsInPlannedOrder : {S O G : Type 0} → (G → Outcome) → (G → List ℕ) → Option Verdict → List (ShardView S O G) → List (ShardView S O G) → Type 0
IsInPlannedOrder outcome bytes None old new = ⊤
IsInPlannedOrder outcome bytes (Some (Refuse refusal)) old new = ⊤
IsInPlannedOrder outcome bytes (Some (Scan plan)) old new = IsInOrder (file_map outcome bytes (all_rows new)) plan.jobs plan.manner.settings plan.manner.workers plan.manner.schedule old new
IsInPlannedOrder outcome bytes (Some (Make plan)) old new = ⊤

-- unless the run found no memory
abbrev pub FollowsSchedule : {S O G : Type 0} → (G → Outcome) → (G → List ℕ) → Option Verdict → List (ShardView S O G) → List (ShardView S O G) → ℕ → Type 0
FollowsSchedule outcome bytes verdict old new status = status ≢ number NoMemory → IsInPlannedOrder outcome bytes verdict old new
