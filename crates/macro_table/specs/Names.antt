-- The names of a parameter list as a set, and the tests of a replacement list by it ([cpp.replace]).
use Rattle.std.specs.Prelude.{ℕ, Bool, true, false, not, ◌&&◌, ◌||◌, List, codes, Option}
use Rattle.std.specs.Option.{option_map}
use Rattle.std.specs.List.{list_any}
use Rattle.std.specs.Borrow.{Bor}
use Rattle.scan_model.specs.declared.token.Kind.TheVariants.{Ident}
use Rattle.scan_model.specs.declared.token.Tok.{Tok}
use Rattle.scan_model.specs.TokenTests.{same, is_of}
use Rattle.scan_model.specs.Parentheses.{enclosed, in_parens}
use Rattle.scan_model.specs.MacroDefinition.{is_opt, hashes_fit, opts_fit}

-- whether a set with these keys has the name
abbrev pub has_name : List (Bor (List ℕ)) → List ℕ → Bool
has_name keys name = list_any (λ key. same name key.now) keys

-- by a test of names: the token is a parameter
abbrev pub is_param_by : (List ℕ → Bool) → Tok → Bool
is_param_by is_name t = is_of Ident t && is_name t.text

-- what `#` may stand before, in a list with the variable part and in one without
abbrev pub is_operand_by : (List ℕ → Bool) → Bool → Tok → Bool
is_operand_by is_name true t = is_param_by is_name t || is_opt t
is_operand_by is_name false t = is_param_by is_name t

abbrev pub fits_by : (List ℕ → Bool) → Bool → List Tok → Bool
fits_by is_name true ts = hashes_fit (is_operand_by is_name true) ts && opts_fit ts && not (is_name (codes "__VA_OPT__"))
fits_by is_name false ts = hashes_fit (is_operand_by is_name false) ts

-- what an open parenthesis right before the list encloses, where `depth` more are open
abbrev pub enclosed_tokens : ℕ → List Tok → Option (List Tok)
enclosed_tokens depth ts = option_map (λ e. e.inside) (enclosed (λ t. t) depth ts)

-- what the parentheses that begin the list enclose
abbrev pub inside_parens : List Tok → Option (List Tok)
inside_parens ts = option_map (λ e. e.inside) (in_parens (λ t. t) ts)
