-- How rows grow, and that no two have the same path.
use Rattle.std.specs.Prelude.{◌≡◌, ⊤, ℕ, List, [], ◌∷◌, map, Some, None}
use Rattle.scan_model.specs.Files.{Content}
use Rattle.unit_laws.specs.Growth.{Begins}
use Rattle.cache_machine.specs.Rows.{Done, Row, held_at}

-- no later row has the path of a row
abbrev pub RowsDiffer : List Row → Type 0
RowsDiffer [] = ⊤
RowsDiffer (row ∷ rows) = (held_at rows row.path ≡ None) × RowsDiffer rows

abbrev pub paths_of : List Row → List (List ℕ)
paths_of rows = map (λ row. row.path) rows

-- the rows of the second list go on from those of the first: paths stay, in order, and what is done stays
pub record RowsGrow (rows more : List Row) : Type 0 where
  pub paths : Begins (paths_of rows) (paths_of more)
  pub done : (path : List ℕ) (content : Content (List ℕ)) → held_at rows path ≡ Some (Done content) → held_at more path ≡ Some (Done content)
