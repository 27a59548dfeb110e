-- The rows of a cache, each claimed or done, and the file map that they tell.
use Rattle.std.specs.Prelude.{ℕ, ◌==◌, if◌then◌else◌, List, [], ◌∷◌, Option, Some, None}
use Rattle.scan_model.specs.Files.{FileMap, Content}
use Rattle.scan_model.specs.TokenTests.{same}

-- a path is claimed by this worker, or done: read with this
pub data Held : Type 0 where
  Claimed : ℕ → Held
  Done : Content (List ℕ) → Held

pub record Row : Type 0 where
  pub path : List ℕ
  pub held : Held

-- what the first row of the path holds
abbrev pub held_at : List Row → List ℕ → Option Held
held_at [] path = None
held_at (row ∷ rows) path = let later = held_at rows path in if same row.path path then Some row.held else later

abbrev pub done_of : Option Held → Option (Content (List ℕ))
done_of (Some (Done content)) = Some content
done_of held = None

-- the file map of the rows that are done
abbrev pub map_of : List Row → FileMap (List ℕ)
map_of rows path = done_of (held_at rows path)

-- what this worker claimed is done with this content; what is done, or claimed by another, stays
abbrev pub published_held : ℕ → Content (List ℕ) → Held → Held
published_held w content (Claimed v) = if v == w then Done content else Claimed v
published_held w content (Done before) = Done before

abbrev pub published : ℕ → Content (List ℕ) → Row → Row
published w content row = record { path = row.path; held = published_held w content row.held }
