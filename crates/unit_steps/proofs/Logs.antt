-- The answers of a unit as a log that grows.
use Rattle.std.proofs.Common.{◌≡◌, ℕ, zero, suc, ◌<◌, List, [], ◌∷◌, ◌++◌, length, slice_get, refl, ap, arith}
use Rattle.std.specs.Prelude.{Some}
use Rattle.std.specs.Option.{option_map_or}
use Rattle.scan_model.specs.declared.token.Line.{Line}
use Rattle.scan_model.specs.Files.{Present}
use Rattle.unit_laws.specs.Reduction.{Given}
use Rattle.unit_steps.specs.Logs.{lines_in, lines_at, path_at}

-- what stands in a list stands in a longer one
pub get_first : {X : Type 0} (xs ys : List X) (k : ℕ) → k < length xs → slice_get (xs ++ ys) k ≡ slice_get xs k
get_first [] ys k h = let no : ⊥ = omega (arith, h) in absurd no
get_first (x ∷ xs) ys zero h = refl
get_first (x ∷ xs) ys (suc k) h = get_first xs ys k (omega (arith, h))

-- the last one
pub get_last : {X : Type 0} (xs : List X) (x : X) → slice_get (xs ++ x ∷ []) (length xs) ≡ Some x
get_last [] x = refl
get_last (y ∷ xs) x = get_last xs x

-- a text that was given last
pub lines_of_last : (answers : List (List ℕ × Given)) (path : List ℕ) (text : List Line) → lines_at (answers ++ (path, Present text) ∷ []) (length answers) ≡ text
lines_of_last answers path text = ap (λ o. option_map_or lines_in o []) (get_last answers (path, Present text))

pub path_of_last : (answers : List (List ℕ × Given)) (path : List ℕ) (content : Given) → path_at (answers ++ (path, content) ∷ []) (length answers) ≡ path
path_of_last answers path content = ap (λ o. option_map_or (λ a. a.0) o []) (get_last answers (path, content))
