-- What is known of a definition's parameters by their names.
use Rattle.std.specs.Prelude.{◌≡◌, ℕ, suc, Bool, if◌then◌else◌, List, [], ◌∷◌, Option, Some, None}
use Rattle.std.specs.Option.{option_map}
use Rattle.std.specs.List.{list_any}
use Rattle.std.specs.Map.{lookup}
use Rattle.std.specs.Borrow.{Bor}
use Rattle.scan_model.specs.declared.macros.FunctionDef.{FunctionDef}
use Rattle.scan_model.specs.TokenTests.{same}
use Rattle.scan_model.specs.MacroDefinition.{all_params}
use Rattle.scan_model.specs.Substitution.{stands_alone, is_variable_part}
use Rattle.substitution.specs.declared.index.Index.{Index}
use Rattle.substitution.specs.Written.{stands_as_operand}

-- the place of the first of these names that is this one
abbrev pub place_of : List (List ℕ) → List ℕ → Option ℕ
place_of [] name = None
place_of (p ∷ ps) name = if same p name then Some 0 else option_map suc (place_of ps name)

-- the place that a map with these entries gives the name
abbrev pub place_in : List (Bor (List ℕ) × ℕ) → List ℕ → Option ℕ
place_in entries name = lookup (λ key. same name key.now) entries

-- a set with these keys has the name
abbrev pub has_name : List (Bor (List ℕ)) → List ℕ → Bool
has_name keys name = list_any (λ key. same name key.now) keys

-- the index answers of each name what the definition says
pub record IsIndex (f : FunctionDef) (index : Index) : Type 0 where
  pub places : (name : List ℕ) → place_in index.places.entries name ≡ place_of (all_params f.params f.variadic) name
  pub alone : (name : List ℕ) → has_name index.alone.keys name ≡ stands_alone (is_variable_part f.variadic name) name [] [] f.body
  pub operands : (name : List ℕ) → has_name index.operands.keys name ≡ stands_as_operand name [] f.body
