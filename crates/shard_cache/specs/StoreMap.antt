-- The rows of a store as one file map.
use Rattle.std.specs.Prelude.{◌≡◌, ℕ, List, [], ◌∷◌, Some, None, if◌then◌else◌, All, Contains}
use Rattle.scan_model.specs.declared.Outcome.{Outcome}
use Rattle.scan_model.specs.Files.{FileMap}
use Rattle.scan_model.specs.TokenTests.{same}
use Rattle.shard_cache.specs.declared.kept_row.KeptRow.{KeptRow}
use Rattle.shard_cache.specs.Rows.{ShardView, all_rows, all_asked, paths_of, AllDiffer, row_content}

-- what the rows stand for, in the words of their source
abbrev pub file_map : {S O G : Type 0} → (G → Outcome) → (G → List ℕ) → List (KeptRow S O G) → FileMap (List ℕ)
file_map outcome bytes [] path = None
file_map outcome bytes (row ∷ rows) path =
    let later = file_map outcome bytes rows path in
    if same row.path path then Some (row_content outcome bytes row) else later

-- each row has what its shard's source gave for its path, which that source was asked for
pub record IsGivenHere {S O G : Type 0} (given_path : G → List ℕ) (given_origin : G → ℕ) (shard : ShardView S O G) : Type 0 where
  pub asked : All (λ row. Contains shard.asked row.path) shard.rows
  pub path : All (λ row. given_path row.given ≡ row.path) shard.rows
  pub origin : All (λ row. given_origin row.given ≡ shard.origin) shard.rows

abbrev pub AreGiven : {S O G : Type 0} → (G → List ℕ) → (G → ℕ) → List (ShardView S O G) → Type 0
AreGiven given_path given_origin [] = Unit {0}
AreGiven given_path given_origin (shard ∷ shards) = IsGivenHere given_path given_origin shard × AreGiven given_path given_origin shards

-- no path was asked for twice, no two rows have one path, and each row has what was given for its path
pub record IsOneMap {S O G : Type 0} (given_path : G → List ℕ) (given_origin : G → ℕ) (shards : List (ShardView S O G)) : Type 0 where
  pub asked_once : AllDiffer (all_asked shards)
  pub paths_differ : AllDiffer (paths_of (all_rows shards))
  pub given : AreGiven given_path given_origin shards

-- each path that was asked for has its row
abbrev pub HaveRows : {S O G : Type 0} → List (ShardView S O G) → Type 0
HaveRows [] = Unit {0}
HaveRows (shard ∷ shards) = All (λ path. Contains (paths_of shard.rows) path) shard.asked × HaveRows shards

-- nothing was asked for, and no row is kept
pub record IsUntouched {S O G : Type 0} (shards : List (ShardView S O G)) : Type 0 where
  pub nothing_asked : all_asked shards ≡ []
  pub no_row : all_rows shards ≡ []
