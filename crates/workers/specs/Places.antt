-- The ends of jobs at the places of their numbers.
use Rattle.std.specs.Prelude.{◌≡◌, ◌<◌, ℕ, List, Option, Some, None, All, IsSome, Contains, slice_index_or}
use Rattle.scan_model.specs.declared.UnitEnd.{UnitEnd}

-- the ends are of numbers below this one
abbrev pub AreBelow : ℕ → List (ℕ × UnitEnd) → Type 0
AreBelow count ends = All (λ (e : ℕ × UnitEnd). e.0 < count) ends

-- the place of each end's number has an end, and each end that has a place is one of these, under its place's number
pub record ArePlaced (ends : List (ℕ × UnitEnd)) (places : List (Option UnitEnd)) : Type 0 where
  pub filled : All (λ (e : ℕ × UnitEnd). IsSome (slice_index_or places e.0 None)) ends
  pub own : (k : ℕ) (end : UnitEnd) → slice_index_or places k None ≡ Some end → Contains ends (k, end)
