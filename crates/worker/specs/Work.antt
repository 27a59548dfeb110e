-- What a worker leaves.
use Rattle.std.specs.Prelude.{◌≡◌, ◌<◌, ◌≤◌, ℕ, List, [], ◌∷◌, ◌++◌, length, map, All, Contains, Some, slice_get}
use Rattle.scan_model.specs.declared.command.Settings.{Settings}
use Rattle.scan_model.specs.declared.command.Job.{Job}
use Rattle.scan_model.specs.declared.UnitEnd.{UnitEnd}
use Rattle.scan_model.specs.Files.{FileMap}
use Rattle.scan_model.specs.Answer.{looked}
use Rattle.shard_cache.specs.Ends.{IsEnd, IsLookedAt}
use Rattle.cache_desk.specs.declared.entry.Entry.{Entry}
use Rattle.shared_cache.specs.Shared.{HasRowsOf}
use Rattle.worker.specs.Seen.{HasPublication}
use Rattle.worker.specs.Claims.{HasClaimed}

-- ## One job

module _ (settings : Settings) (job : Job) (seen : List (List Entry)) where
  -- the job's end over every map that has what was seen, or want of memory
  abbrev pub IsEndOver : UnitEnd → Type 0
  IsEndOver end = (files : FileMap (List ℕ)) → HasRowsOf files seen → IsEnd files settings job end

  -- the job looks at the path, over every such map
  abbrev pub IsLooked : List ℕ → Type 0
  IsLooked path = (files : FileMap (List ℕ)) → HasRowsOf files seen → Contains (looked files settings job) path

-- ## The jobs of a worker

module _ (settings : Settings) (jobs : List Job) where
  -- the end is that of the job with this number
  abbrev pub IsEndOf : List (List Entry) → ℕ × UnitEnd → Type 0
  IsEndOf seen (number, end) = (job : Job) × (slice_get jobs number ≡ Some job) × IsEndOver settings job seen end

  -- each path that the passes of this number claimed was published, and some job looks at it, over every map that has what was seen
  abbrev pub AreSpent : List (List Entry) → ℕ → Type 0
  AreSpent seen by = (path : List ℕ) → HasClaimed seen by path →
      HasPublication seen path × ((files : FileMap (List ℕ)) → HasRowsOf files seen → IsLookedAt files settings jobs path)

  -- one end for each number that was drawn below the number of jobs, in that order, and a last number past them
  pub record IsWorked (by : ℕ) (drawn : List ℕ) (seen : List (List Entry)) (share : List (ℕ × UnitEnd)) : Type 0 where
    pub before : List ℕ
    pub last : ℕ
    pub drawn_are : drawn ≡ before ++ last ∷ []
    pub below : All (λ n. n < length jobs) before
    pub past : length jobs ≤ last
    pub numbers : map (λ e. e.0) share ≡ before
    pub ends : All (IsEndOf seen) share
    pub spent : AreSpent seen by
