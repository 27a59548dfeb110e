-- A cache seen as its locks, and one worker's passes, one of each lock.
use Rattle.std.specs.Prelude.{◌≡◌, ◌≢◌, ◌<◌, ◌≤◌, ℕ, List, [], ◌∷◌, map, length, slice_index_or, Some, All, Vec, vec_capacity}
use Rattle.std.specs.declared.alloc.Global.{Global}
use Rattle.turn_lock.specs.declared.Logged.{Ghosts}
use Rattle.turn_lock.specs.declared.lock.Pass.{Pass}
use Rattle.turn_lock.specs.declared.lock.TurnLock.{TurnLock}
use Rattle.turn_lock.specs.Passes.{IsPassOf, number, seen, lock_fixed, pass_count}
use Rattle.scan_model.specs.declared.Outcome.{Outcome}
use Rattle.scan_model.specs.Files.{FileMap, content}
use Rattle.shard_cache.specs.Rows.{shard_number}
use Rattle.cache_desk.specs.declared.entry.Entry.{Entry}
use Rattle.shared_cache.specs.Cache.{HasSeen}

module _ {T E : Type 0} where
  -- what is fixed of each lock
  abbrev pub locks_fixed : (T → List ℕ) → List (TurnLock T E) → List (List ℕ)
  locks_fixed fixed locks = map (lock_fixed fixed) locks

  module _ {g : Ghosts T E} where
    -- one pass of each lock, in order, all with this number
    abbrev pub ArePasses : List (TurnLock T E) → List (Pass T E g) → ℕ → Type 0
    ArePasses [] [] n = Unit {0}
    ArePasses (l ∷ ls) (p ∷ ps) n = (IsPassOf l p × (number p ≡ n)) × ArePasses ls ps n
    ArePasses ls ps n = ⊥

    -- what the passes have seen of each shard
    abbrev pub all_seen : List (Pass T E g) → List (List E)
    all_seen ps = map seen ps

-- the first of the numbers, which is the number of a shard
abbrev pub first : List ℕ → ℕ
first [] = 0
first (n ∷ ns) = n

-- the second of the numbers, which is the origin of a shard's source
abbrev pub second : List ℕ → ℕ
second [] = 0
second (n ∷ []) = 0
second (n ∷ m ∷ ns) = m

-- the locks have the numbers from 0 on
abbrev pub AreNumbered : List (List ℕ) → Type 0
AreNumbered fs = (k : ℕ) → k < length fs → slice_index_or fs k [] ≡ k ∷ second (slice_index_or fs k []) ∷ []

-- what was seen of the shard of this number
abbrev pub seen_of_shard : {E : Type 0} → List (List E) → ℕ → List E
seen_of_shard seen k = slice_index_or seen k []

-- what was seen of a path's shard
abbrev pub seen_of : {E : Type 0} → List (List E) → List ℕ → List E
seen_of seen path = seen_of_shard seen (shard_number path)

-- only what was seen of this path's shard has changed
abbrev pub SameElsewhere : {E : Type 0} → List ℕ → List (List E) → List (List E) → Type 0
SameElsewhere path before after = (k : ℕ) → k ≢ shard_number path → seen_of_shard after k ≡ seen_of_shard before k

-- the map has what each publication seen says
abbrev pub HasRowsOf : FileMap (List ℕ) → List (List Entry) → Type 0
HasRowsOf files seen = (path : List ℕ) (o : Outcome) (b : List ℕ) → HasSeen (seen_of seen path) path o b → files path ≡ Some (content o b)

-- nothing had happened to the state that a lock was made with
abbrev pub AreFresh : {T E X : Type 0} → (T → List X) → List (TurnLock T E) → Type 0
AreFresh log locks = All (λ l. length (log l.table.shared.key.first.value) ≡ 0) locks

-- each room is empty, and has places for this many
abbrev pub HaveRoom : {X : Type 0} → ℕ → List (Vec X Global) → Type 0
HaveRoom count rooms = All (λ room. (length room.items ≡ 0) × (count ≤ vec_capacity room)) rooms

-- each lock is for this many passes
abbrev pub HavePasses : {T E : Type 0} → List (TurnLock T E) → ℕ → Type 0
HavePasses locks count = All (λ l. pass_count l ≡ count) locks
