-- An index of a list by path.
use Rattle.std.specs.Prelude.{◌≡◌, ℕ, zero, suc, Bool, true, false, if◌then◌else◌, List, [], ◌∷◌, map, Option, Some, None}
use Rattle.std.specs.Map.{lookup}
use Rattle.std.specs.declared.alloc.Global.{Global}
use Rattle.std.specs.declared.vec.Vec.{Vec}
use Rattle.scan_model.specs.TokenTests.{same}
use Rattle.byte_keys.specs.Maps.{entry_by}

-- the places by their paths
abbrev pub entries : List (Vec ℕ Global × ℕ) → List (List ℕ × ℕ)
entries es = map (entry_by (λ place. place)) es

-- the place that an index has for a path
unfoldable pub place_of : List (List ℕ × ℕ) → List ℕ → Option ℕ
place_of places path = lookup (same path) places

-- the path has this place now, and the others have what they had
abbrev pub IsPlaced : List ℕ → ℕ → List (List ℕ × ℕ) → List (List ℕ × ℕ) → Type 0
IsPlaced path place old new = (other : List ℕ) → place_of new other ≡ (if same path other then Some place else place_of old other)

-- the last place in a list, by whether its first element has the path and by the last place in the rest
abbrev pub last_of : Bool → Option ℕ → Option ℕ
last_of here (Some k) = Some (suc k)
last_of true None = Some zero
last_of false None = None

module _ {X : Type 0} (path_of : X → List ℕ) where
  -- where the last element with this path stands
  abbrev pub last_place : List X → List ℕ → Option ℕ
  last_place [] path = None
  last_place (x ∷ xs) path = last_of (same (path_of x) path) (last_place xs path)

  -- The index has the place of the last element with each path. What it has of a path that no element has is left open:
  -- whoever reads the index looks at the element itself.
  abbrev pub IsIndexOf : List X → List (List ℕ × ℕ) → Type 0
  IsIndexOf xs places = (path : List ℕ) (k : ℕ) → last_place xs path ≡ Some k → place_of places path ≡ Some k
