-- What one shard has when its lock is closed, by what the lock's passes had seen.
use Rattle.std.specs.Prelude.{◌≡◌, ℕ, suc, List, [], ◌∷◌, map, All, Contains}
use Rattle.std.specs.List.{Any}
use Rattle.scan_model.specs.declared.Outcome.{Outcome}
use Rattle.turn_lock.specs.declared.Logged.{Ghosts}
use Rattle.turn_lock.specs.declared.lock.Pass.{Pass}
use Rattle.turn_lock.specs.Passes.{number, seen}
use Rattle.shard_cache.specs.declared.KeptRow.{KeptRow}
use Rattle.shard_cache.specs.Rows.{ShardView, shard_number, AllDiffer, IsRow, IsShard}
use Rattle.shard_cache.specs.StoreMap.{IsGivenHere}
use Rattle.cache_desk.specs.declared.entry.Entry.{Entry}
use Rattle.cache_desk.specs.declared.desk.Desk.{Desk}
use Rattle.cache_desk.specs.Log.{claim}
use Rattle.cache_desk.specs.Desk.{row_outcome, row_published}
use Rattle.shared_cache.specs.declared.cache.Passes.{Passes}
use Rattle.shared_cache.specs.Cache.{HasSeen}
use Rattle.shared_cache.specs.Shared.{first, second, all_seen, seen_of_shard}
use Rattle.shared_cache.specs.Hands.{HaveOneMore}

module _ {S O G : Type 0} {g : Ghosts (Desk S O G) Entry} where
  -- the number of a pass, and what it has seen
  abbrev pub view_of : Pass (Desk S O G) Entry g → ℕ × List Entry
  view_of pass = (number pass, seen pass)

  -- the number of each worker, and what it has seen of the shard of this number
  abbrev pub views_at : ℕ → List (Passes S O G Entry g) → List (ℕ × List Entry)
  views_at k hands = map (λ (hand : Passes S O G Entry g). (hand.number, seen_of_shard (all_seen hand.passes.items) k)) hands

-- one of the rows is what was published so for the path
abbrev pub IsKeptIn : {S O G : Type 0} → (G → Outcome) → (G → List ℕ) → List (KeptRow S O G) → List ℕ → Outcome → List ℕ → Type 0
IsKeptIn {S} {O} {G} outcome bytes rows path o b = Any (λ (row : KeptRow S O G). (row.path ≡ path) × (row_outcome outcome bytes row ≡ o) × (bytes row.given ≡ b)) rows

-- the closed shard of this number, by the numbers of its lock's passes and what each had seen
pub record IsClosed {S O G : Type 0} (given_path : G → List ℕ) (outcome : G → Outcome) (bytes : G → List ℕ) (given_origin : G → ℕ) (k : ℕ) (views : List (ℕ × List Entry)) (shard : ShardView S O G) : Type 0 where
  pub kept : IsShard (IsRow given_path outcome bytes) k shard
  pub given : IsGivenHere given_path given_origin shard
  pub asked_once : AllDiffer shard.asked
  pub placed : All (λ path. shard_number path ≡ k) shard.asked
  pub claimed : All (λ path. Any (λ (view : ℕ × List Entry). Contains view.1 (claim path view.0)) views) shard.asked
  pub published : All (λ (row : KeptRow S O G). Any (λ (view : ℕ × List Entry). Contains view.1 (row_published outcome bytes row view.0)) views) shard.rows
  pub seen_is_kept : All (λ (view : ℕ × List Entry). (path : List ℕ) (o : Outcome) (b : List ℕ) → HasSeen view.1 path o b → IsKeptIn outcome bytes shard.rows path o b) views

module _ {S O G : Type 0} {g : Ghosts (Desk S O G) Entry} (given_path : G → List ℕ) (outcome : G → Outcome) (bytes : G → List ℕ) (given_origin : G → ℕ) where
  -- the shard of the lock of which this is fixed, closed with each worker's last pass
  abbrev pub ClosesLast : List ℕ → List (Passes S O G Entry g) → List (Passes S O G Entry g) → ShardView S O G → Type 0
  ClosesLast fixed before after shard = (row : List (Pass (Desk S O G) Entry g))
      × HaveOneMore after row before × IsClosed given_path outcome bytes given_origin (first fixed) (map view_of row) shard × (shard.origin ≡ second fixed)

  -- the closed shards with the numbers from k on
  abbrev pub AreClosed : List (Passes S O G Entry g) → ℕ → List (ShardView S O G) → Type 0
  AreClosed hands k [] = Unit {0}
  AreClosed hands k (shard ∷ shards) = IsClosed given_path outcome bytes given_origin k (views_at k hands) shard × AreClosed hands (suc k) shards
