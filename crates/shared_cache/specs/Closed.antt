-- What the passes had seen of a cache that is closed.
use Rattle.std.specs.Prelude.{◌≡◌, ℕ, suc, List, [], ◌∷◌, All, Contains}
use Rattle.std.specs.List.{Any}
use Rattle.scan_model.specs.declared.Outcome.{Outcome}
use Rattle.turn_lock.specs.declared.Logged.{Ghosts}
use Rattle.shard_cache.specs.declared.KeptRow.{KeptRow}
use Rattle.shard_cache.specs.Rows.{ShardView, shard_number}
use Rattle.cache_desk.specs.declared.entry.Entry.{Entry}
use Rattle.cache_desk.specs.declared.desk.Desk.{Desk}
use Rattle.cache_desk.specs.Log.{claim}
use Rattle.cache_desk.specs.Desk.{row_published}
use Rattle.shared_cache.specs.declared.cache.Passes.{Passes}
use Rattle.shared_cache.specs.Shared.{all_seen, seen_of}

module _ {S O G : Type 0} {g : Ghosts (Desk S O G) Entry} where
  -- one of the passes claimed the path: its own log of the path's shard says so
  abbrev pub IsClaimed : List (Passes S O G Entry g) → List ℕ → Type 0
  IsClaimed hands path = Any (λ (hand : Passes S O G Entry g). Contains (seen_of (all_seen hand.passes.items) path) (claim path hand.number)) hands

  -- each path that was asked for was asked for in its own shard, and one of the passes claimed it; the shards have the numbers from k on
  abbrev pub AreClaimed : List (Passes S O G Entry g) → ℕ → List (ShardView S O G) → Type 0
  AreClaimed hands k [] = Unit {0}
  AreClaimed hands k (shard ∷ shards) = All (λ path. (shard_number path ≡ k) × IsClaimed hands path) shard.asked × AreClaimed hands (suc k) shards

  -- one of the passes published the row
  abbrev pub IsPublished : (G → Outcome) → (G → List ℕ) → List (Passes S O G Entry g) → KeptRow S O G → Type 0
  IsPublished outcome bytes hands row = Any (λ (hand : Passes S O G Entry g). Contains (seen_of (all_seen hand.passes.items) row.path) (row_published outcome bytes row hand.number)) hands
