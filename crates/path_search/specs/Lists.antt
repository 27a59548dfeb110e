-- Lists of folders, one list after another.
use Rattle.std.specs.Prelude.{ℕ, List, [], ◌∷◌, ◌++◌}
use Rattle.std.specs.Borrow.{Bor}

abbrev pub chained : List (Bor (List (List ℕ))) → List (List ℕ)
chained [] = []
chained (list ∷ lists) = list.now ++ chained lists
