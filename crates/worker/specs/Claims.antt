-- What the passes of one number have claimed.
use Rattle.std.specs.Prelude.{◌⊎◌, ℕ, List, Contains}
use Rattle.cache_desk.specs.declared.entry.Entry.{Entry}
use Rattle.cache_desk.specs.Log.{claim}
use Rattle.shared_cache.specs.Shared.{seen_of}
use Rattle.worker.specs.Seen.{HasPublication, SeesFurther}

-- they have claimed the path, and have seen that
abbrev pub HasClaimed : List (List Entry) → ℕ → List ℕ → Type 0
HasClaimed seen by path = Contains (seen_of seen path) (claim path by)

-- each path that they claimed was published
abbrev pub ArePublished : List (List Entry) → ℕ → Type 0
ArePublished seen by = (path : List ℕ) → HasClaimed seen by path → HasPublication seen path

-- they have seen more, have published what they claimed, and have claimed no more paths than such ones
pub record GoesOn (by : ℕ) (wanted : List ℕ → Type 0) (before after : List (List Entry)) : Type 0 where
  pub further : SeesFurther before after
  pub published : ArePublished before by → ArePublished after by
  pub claims : (path : List ℕ) → HasClaimed after by path → HasClaimed before by path ⊎ wanted path
