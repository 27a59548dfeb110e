-- What a run asks for.
use Rattle.std.specs.Prelude.{ℕ, List, All}
use Rattle.scan_model.specs.declared.command.Settings.{Settings}
use Rattle.scan_model.specs.declared.command.Job.{Job}
use Rattle.scan_model.specs.Files.{FileMap}
use Rattle.shard_cache.specs.Rows.{ShardView}
use Rattle.shard_cache.specs.StoreRun.{IsExtended}
use Rattle.shard_cache.specs.Ends.{IsLookedAt}

-- the new store is the old one, extended by a run that asked only for what the jobs look at over these files
pub record AsksForLooks {S O G : Type 0} (given_path : G → List ℕ) (given_origin : G → ℕ) (files : FileMap (List ℕ)) (jobs : List Job) (settings : Settings) (old new : List (ShardView S O G)) : Type 0 where
  pub extended : IsExtended given_path given_origin old new
  pub looks : All (λ path. IsLookedAt files settings jobs path) extended.asks
