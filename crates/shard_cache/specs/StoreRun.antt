-- What a run over a store leaves: the store that it began with, with some paths asked and some rows added.
use Rattle.std.specs.Prelude.{◌≡◌, ℕ, List, [], ◌∷◌, Some, All, Contains, slice_get}
use Rattle.shard_cache.specs.declared.kept_row.KeptRow.{KeptRow}
use Rattle.shard_cache.specs.Rows.{ShardView, all_origins, AllDiffer, change_at, asked_also, kept_also, shard_number, LacksPath}

-- the store with these paths asked, one after another, each of its shard's source
abbrev pub ask_all : {S O G : Type 0} → List (List ℕ) → List (ShardView S O G) → List (ShardView S O G)
ask_all [] shards = shards
ask_all (path ∷ paths) shards = ask_all paths (change_at (asked_also path) (shard_number path) shards)

-- the store with these rows added, one after another, each at the end of its shard
abbrev pub add_all : {S O G : Type 0} → List (KeptRow S O G) → List (ShardView S O G) → List (ShardView S O G)
add_all [] shards = shards
add_all (row ∷ rows) shards = add_all rows (change_at (kept_also row) (shard_number row.path) shards)

-- the row has what its path's own source gave for it
pub record IsGivenRow {S O G : Type 0} (given_path : G → List ℕ) (given_origin : G → ℕ) (shards : List (ShardView S O G)) (row : KeptRow S O G) : Type 0 where
  pub path : given_path row.given ≡ row.path
  pub origin : slice_get (all_origins shards) (shard_number row.path) ≡ Some (given_origin row.given)

-- The new store is the old one with these paths asked and these rows added. No path was asked twice, none that had a row
-- was asked, and each new row was asked for and has what was given for it.
pub record IsExtended {S O G : Type 0} (given_path : G → List ℕ) (given_origin : G → ℕ) (old new : List (ShardView S O G)) : Type 0 where
  pub asks : List (List ℕ)
  pub rows : List (KeptRow S O G)
  pub is : new ≡ add_all rows (ask_all asks old)
  pub once : AllDiffer asks
  pub fresh : All (λ path. LacksPath old path) asks
  pub asked : All (λ row. Contains asks row.path) rows
  pub given : All (λ row. IsGivenRow given_path given_origin old row) rows
