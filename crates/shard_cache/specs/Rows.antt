-- The rows of a store: 16 shards, each with the paths that its source was asked for, and its rows.
use Rattle.std.specs.Prelude.{◌≡◌, ◌≢◌, ◌%◌, ℕ, zero, suc, List, [], ◌∷◌, ◌++◌, map, sum, length, All, slice_index_or, Bool, false, is_some}
use Rattle.std.specs.List.{flat_map}
use Rattle.std.specs.Option.{ForSome}
use Rattle.std.specs.Arc.{arc_value}
use Rattle.scan_model.specs.declared.Outcome.{Outcome}
use Rattle.scan_model.specs.declared.Outcome.TheVariants.{Present}
use Rattle.scan_model.specs.Lines.{kept}
use Rattle.scan_model.specs.Files.{Content, NoMemory, content}
use Rattle.shard_cache.specs.declared.kept_row.KeptRow.{KeptRow}

-- ## A row

-- where a row has lines, its file was read, and they are the kept lines of its bytes
abbrev pub HasOwnLines : {S O G : Type 0} → (G → Outcome) → (G → List ℕ) → KeptRow S O G → Type 0
HasOwnLines outcome bytes row = ForSome row.reduced (λ lines. (outcome row.given ≡ Present) × (arc_value lines ≡ kept (bytes row.given)))

-- what every row of a store keeps: it has what was given for its path, and no lines but its own
pub record IsRow {S O G : Type 0} (given_path : G → List ℕ) (outcome : G → Outcome) (bytes : G → List ℕ) (row : KeptRow S O G) : Type 0 where
  pub given : given_path row.given ≡ row.path
  pub reduced : HasOwnLines outcome bytes row

-- what a read with this outcome and these bytes stands for, by whether a row has its lines
abbrev pub stands_for : Bool → Outcome → List ℕ → Content (List ℕ)
stands_for false Present bytes = NoMemory
stands_for has_lines outcome bytes = content outcome bytes

-- what a row stands for
abbrev pub row_content : {S O G : Type 0} → (G → Outcome) → (G → List ℕ) → KeptRow S O G → Content (List ℕ)
row_content outcome bytes row = stands_for (is_some row.reduced) (outcome row.given) (bytes row.given)

-- ## Shards

-- a shard, with its source seen as the paths that it was asked for and its origin
pub record ShardView (S O G : Type 0) : Type 0 where
  pub asked : List (List ℕ)
  pub origin : ℕ
  pub rows : List (KeptRow S O G)

-- a source's shard before there is a row
abbrev pub fresh_shard : {S O G : Type 0} → (S → List (List ℕ)) → (S → ℕ) → S → ShardView S O G
fresh_shard asked origin source = record { asked = asked source; origin = origin source; rows = [] }

-- the number of the shard in which a path's row stands
abbrev pub shard_number : List ℕ → ℕ
shard_number path = sum path % 16

-- the list with one element changed
abbrev pub change_at : {A : Type 0} → (A → A) → ℕ → List A → List A
change_at f k [] = []
change_at f zero (x ∷ xs) = f x ∷ xs
change_at f (suc k) (x ∷ xs) = x ∷ change_at f k xs

-- the shard whose source was asked for one path more
abbrev pub asked_also : {S O G : Type 0} → List ℕ → ShardView S O G → ShardView S O G
asked_also path shard = record { asked = shard.asked ++ path ∷ []; origin = shard.origin; rows = shard.rows }

-- the shard with one row more
abbrev pub kept_also : {S O G : Type 0} → KeptRow S O G → ShardView S O G → ShardView S O G
kept_also row shard = record { asked = shard.asked; origin = shard.origin; rows = shard.rows ++ row ∷ [] }

-- all rows, shard by shard
abbrev pub all_rows : {S O G : Type 0} → List (ShardView S O G) → List (KeptRow S O G)
all_rows shards = flat_map (λ shard. shard.rows) shards

-- all paths that the sources were asked for, shard by shard
abbrev pub all_asked : {S O G : Type 0} → List (ShardView S O G) → List (List ℕ)
all_asked shards = flat_map (λ shard. shard.asked) shards

-- the origin of each shard's source
abbrev pub all_origins : {S O G : Type 0} → List (ShardView S O G) → List ℕ
all_origins shards = map (λ shard. shard.origin) shards

-- the rows of the shard of this number
abbrev pub rows_at : {S O G : Type 0} → List (ShardView S O G) → ℕ → List (KeptRow S O G)
rows_at shards k = slice_index_or (map (λ shard. shard.rows) shards) k []

abbrev pub paths_of : {S O G : Type 0} → List (KeptRow S O G) → List (List ℕ)
paths_of rows = map (λ row. row.path) rows

-- no two are equal
abbrev pub AllDiffer : List (List ℕ) → Type 0
AllDiffer [] = Unit {0}
AllDiffer (p ∷ ps) = All (λ q. p ≢ q) ps × AllDiffer ps

-- the rows of one shard: each stands in its path's shard and keeps what a row keeps, and no two have one path
pub record IsShard {S O G : Type 0} (fits : KeptRow S O G → Type 0) (k : ℕ) (shard : ShardView S O G) : Type 0 where
  pub placed : All (λ row. shard_number row.path ≡ k) shard.rows
  pub each_row : All fits shard.rows
  pub differ : AllDiffer (paths_of shard.rows)

-- the shards from number k on
abbrev pub AreShards : {S O G : Type 0} → (KeptRow S O G → Type 0) → ℕ → List (ShardView S O G) → Type 0
AreShards fits k [] = Unit {0}
AreShards fits k (shard ∷ shards) = IsShard fits k shard × AreShards fits (suc k) shards

-- what every store keeps
pub record IsStore {S O G : Type 0} (fits : KeptRow S O G → Type 0) (shards : List (ShardView S O G)) : Type 0 where
  pub sixteen : length shards ≡ 16
  pub each : AreShards fits 0 shards

-- no row has the path
abbrev pub LacksPath : {S O G : Type 0} → List (ShardView S O G) → List ℕ → Type 0
LacksPath shards path = All (λ row. row.path ≢ path) (all_rows shards)
