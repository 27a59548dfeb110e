-- What callers in other crates know of a cache, of one worker's passes, and of a claim.
use Rattle.std.specs.Prelude.{ℕ, List, [], slice_index_or}
use Rattle.file_source.specs.declared.source.Source as source
use Rattle.turn_lock.specs.declared.Logged as logged
use Rattle.shard_cache.specs.declared.KeptRow.{KeptRow}
use Rattle.shard_cache.specs.Rows.{shard_number}
use Rattle.cache_desk.specs.declared.desk.Desk.{Desk}
use Rattle.cache_desk.specs.Desk.{fixed_of}
use Rattle.shared_cache.specs.declared.cache.Cache.{Cache}
use Rattle.shared_cache.specs.declared.cache.Passes.{Passes}
use Rattle.shared_cache.specs.declared.claim.Claim.{Claim}
use Rattle.shared_cache.specs.declared.claim.Ready.{Ready}
use Rattle.shared_cache.specs.Shared.{ArePasses, all_seen, locks_fixed, second}

module _ {S O G E : Type 0} {g : logged.Ghosts (Desk S O G) E} where
  -- the number that each of the passes has
  abbrev pub number_of : Passes S O G E g → ℕ
  number_of passes = passes.number

  -- what the passes have seen, shard by shard
  abbrev pub seen_by : Passes S O G E g → List (List E)
  seen_by passes = all_seen passes.passes.items

  module _ {s : source.Ghosts S O G} where
    -- the passes are one of each of the cache's locks
    abbrev pub IsHandOf : Cache S O G E s g → Passes S O G E g → Type 0
    IsHandOf cache passes = ArePasses cache.locks.items passes.passes.items passes.number

    -- what is fixed of the path's shard
    abbrev pub fixed_at : Cache S O G E s g → List ℕ → List ℕ
    fixed_at cache path = slice_index_or (locks_fixed fixed_of cache.locks.items) (shard_number path) []

    -- the origin of the source of the path's shard
    abbrev pub origin_at : Cache S O G E s g → List ℕ → ℕ
    origin_at cache path = second (fixed_at cache path)

module _ {S O G : Type 0} {s : source.Ghosts S O G} where
  -- the path that was claimed
  abbrev pub claimed_path : Claim S O G s → List ℕ
  claimed_path claim = claim.path

  -- the right to read it
  abbrev pub opener_of : Claim S O G s → O
  opener_of claim = claim.opener

  -- the row that is ready
  abbrev pub row_of : Ready S O G s → KeptRow S O G
  row_of ready = ready.row
