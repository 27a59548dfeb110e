-- How a table keeps its sets: each is one name more than an earlier one.
use Rattle.std.specs.Prelude.{◌≡◌, ℕ, ◌<◌, ◌≤◌, true, List, [], ◌∷◌, ◌++◌, length, slice_index_or}
use Rattle.std.specs.List.{All}
use Rattle.hide_sets.specs.declared.table.Node.{Node}
use Rattle.scan_model.specs.TokenTests.{is_among}
use Rattle.hide_sets.specs.Sets.{Sets, names_of}

-- the names of a node's set, by the sets before it
abbrev pub names_with : List (List ℕ) → Sets → Node → List (List ℕ)
names_with names sets node = slice_index_or names node.name [] ∷ names_of sets node.parent

-- the sets before, and those of the nodes
abbrev pub sets_from : List (List ℕ) → Sets → List Node → Sets
sets_from names sets [] = sets
sets_from names sets (node ∷ nodes) = sets_from names (sets ++ names_with names sets node ∷ []) nodes

-- each of the names is known
abbrev pub AreKnown : List (List ℕ) → List (List ℕ) → Type 0
AreKnown known names = All (λ name. is_among known name ≡ true) names

-- each node's name is there, and its parent comes before it
pub record IsTree (names : List (List ℕ)) (nodes : List Node) : Type 0 where
  pub named : (k : ℕ) (d : Node) → k < length nodes → (slice_index_or nodes k d).name < length names
  pub earlier : (k : ℕ) (d : Node) → k < length nodes → (slice_index_or nodes k d).parent ≤ k
