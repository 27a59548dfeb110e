-- What the code finds of a parameter list, as the definitions see it ([cpp.replace]).
use Rattle.std.specs.Prelude.{ℕ, Bool, false, ◌&&◌, List, ◌∷◌, ◌++◌, map, Option}
use Rattle.std.specs.Option.{option_map}
use Rattle.std.specs.Borrow.{Bor}
use Rattle.scan_model.specs.declared.token.Kind.TheVariants.{Ident}
use Rattle.scan_model.specs.declared.token.Tok.{Tok}
use Rattle.scan_model.specs.TokenTests.{is_of, is_comma}
use Rattle.scan_model.specs.MacroDefinition.{Head, more_params}

-- the bytes, wherever they lie in memory
abbrev pub texts : List (Bor (List ℕ)) → List (List ℕ)
texts names = map (λ name. name.now) names

abbrev pub text : Option (Bor (List ℕ)) → Option (List ℕ)
text name = option_map (λ name. name.now) name

-- a parameter and a comma come next
abbrev pub goes_on : List Tok → Bool
goes_on (t ∷ u ∷ ts) = is_of Ident t && is_comma u
goes_on ts = false

-- the list with these parameters before its own
abbrev pub with_params : List (List ℕ) → Head → Head
with_params names h = record h { params = names ++ h.params }

-- what the parameters so far and the rest of the list give
abbrev pub head_after : List (List ℕ) → List Tok → Option Head
head_after names rest = option_map (with_params names) (more_params rest)
