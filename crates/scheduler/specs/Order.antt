-- The order of the rows that a run on the schedule adds.
use Rattle.std.specs.Prelude.{◌≡◌, ◌≢◌, ℕ, Bool, true, false, if◌then◌else◌, List, All}
use Rattle.std.specs.List.{filter, list_any}
use Rattle.scan_model.specs.declared.command.Settings.{Settings}
use Rattle.scan_model.specs.declared.command.Job.{Job}
use Rattle.scan_model.specs.declared.unit_end.UnitEnd.{UnitEnd}
use Rattle.scan_model.specs.declared.unit_end.UnitEnd.TheVariants as Ends
use Rattle.scan_model.specs.Files.{FileMap}
use Rattle.scan_model.specs.TokenTests.{same}
use Rattle.shard_cache.specs.declared.kept_row.KeptRow.{KeptRow}
use Rattle.shard_cache.specs.Rows.{ShardView, all_rows, paths_of}
use Rattle.shard_cache.specs.StoreRun.{ask_all, add_all}
use Rattle.scheduler.specs.Schedule.{Scheduled, IsScheduledRun}

-- whether the store has a row of the path
abbrev pub has_row : {S O G : Type 0} → List (ShardView S O G) → List ℕ → Bool
has_row store path = list_any (λ row. same row.path path) (all_rows store)

-- those of the paths of which the store has no row
abbrev pub without_row : {S O G : Type 0} → List (ShardView S O G) → List (List ℕ) → List (List ℕ)
without_row store paths = filter (λ path. if has_row store path then false else true) paths

-- The new store is the old one with some paths asked and these rows added, each at the end of its shard, in the order of
-- the Publish events of the machine's run on the schedule, in which the Read of a path gives what the files have. A path
-- of which the old store has a row already adds none.
pub record IsInOrder {S O G : Type 0} (files : FileMap (List ℕ)) (jobs : List Job) (settings : Settings) (workers number : ℕ) (old new : List (ShardView S O G)) : Type 0 where
  pub last : Scheduled
  pub run : IsScheduledRun jobs settings files workers number last
  pub asks : List (List ℕ)
  pub rows : List (KeptRow S O G)
  pub is : new ≡ add_all rows (ask_all asks old)
  pub in_order : paths_of rows ≡ without_row old last.published

-- no end is want of memory
abbrev pub HaveMemory : List UnitEnd → Type 0
HaveMemory ends = All (λ end. end ≢ Ends.NoMemory) ends
