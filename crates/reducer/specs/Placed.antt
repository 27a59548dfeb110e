-- How far a text is read.
use Rattle.std.specs.Prelude.{ℕ, ◌+◌, ◌<◌, ◌≤◌, List, [], ◌∷◌, length}
use Rattle.scan_model.specs.Spliced.{Spot}

-- The place of the next byte that shows. A newline that is added lies after a text of so many bytes, and the end after
-- that.
abbrev pub place_in : ℕ → List Spot → ℕ
place_in most [] = most + 1
place_in most (spot ∷ spots) = spot.place

-- the text is read as far, or further
abbrev pub IsFurther : List ℕ → List Spot → List Spot → Type 0
IsFurther text before after = place_in (length text) before ≤ place_in (length text) after

-- the text is read further, by at least so many bytes
abbrev pub TakesBytes : List ℕ → ℕ → List Spot → List Spot → Type 0
TakesBytes text count before after = (place_in (length text) before < place_in (length text) after) × (place_in (length text) before + count ≤ place_in (length text) after)
