-- Which arguments a replacement may take as they are written.
use Rattle.std.specs.Prelude.{◌≡◌, ℕ, Bool, true, false, ◌&&◌, ◌||◌, List, [], ◌∷◌, Option, Some, None}
use Rattle.scan_model.specs.declared.token.Tok.{Tok}
use Rattle.scan_model.specs.declared.macros.FunctionDef.{FunctionDef}
use Rattle.scan_model.specs.TokenTests.{is_named, is_hash, is_paste, begins_with}
use Rattle.scan_model.specs.Expansion.{arg_named}
use Rattle.scan_model.specs.Substitution.{Arg, subst}

-- what stands between these tokens is an operand of `#` or `##`
abbrev pub is_operand : List Tok → List Tok → Bool
is_operand last after = begins_with is_hash last || (begins_with is_paste last || begins_with is_paste after)

-- The parameter of this name stands somewhere right after `#` or `##`, or right before `##`. The token `last` stands
-- before the list.
abbrev pub stands_as_operand : List ℕ → List Tok → List Tok → Bool
stands_as_operand name last [] = false
stands_as_operand name last (t ∷ ts) = (is_named name t && is_operand last ts) || stands_as_operand name (t ∷ []) ts

-- a replacement by the definition may take the argument of this parameter as it is written
abbrev pub is_taken_as_written : FunctionDef → List ℕ → Bool
is_taken_as_written f name = stands_as_operand name [] f.body

-- ## Arguments that give the same replacement

-- what a replacement takes of both is the same: they are replaced alike, and written alike where that is taken
pub record IsAlike (taken : Bool) (a b : Arg) : Type 0 where
  pub replaced : a.replaced ≡ b.replaced
  pub written : taken ≡ true → a.written ≡ b.written

-- neither is an argument, or both are and alike
abbrev pub AreAlike : Bool → Option Arg → Option Arg → Type 0
AreAlike taken None None = Unit {0}
AreAlike taken None (Some b) = ⊥
AreAlike taken (Some a) None = ⊥
AreAlike taken (Some a) (Some b) = IsAlike taken a b

-- for each name the arguments are alike for this list
abbrev pub ServeAlike : List Tok → (List ℕ → Option Arg) → (List ℕ → Option Arg) → Type 0
ServeAlike body g g' = (name : List ℕ) → AreAlike (stands_as_operand name [] body) (g name) (g' name)

-- the arguments at each place are alike, by the name of the parameter there
abbrev pub ArgsAlike : List Tok → List (List ℕ) → List Arg → List Arg → Type 0
ArgsAlike body [] args args' = Unit {0}
ArgsAlike body (name ∷ names) [] [] = Unit {0}
ArgsAlike body (name ∷ names) [] (b ∷ bs) = ⊥
ArgsAlike body (name ∷ names) (a ∷ args) [] = ⊥
ArgsAlike body (name ∷ names) (a ∷ args) (b ∷ bs) = IsAlike (stands_as_operand name [] body) a b × ArgsAlike body names args bs

-- ## The laws of WrittenLemmas

-- arguments that serve a list alike give the same replacement (subst-alike)
abbrev pub GivesTheSame : Type 0
GivesTheSame =
    (variadic : Option (List ℕ)) (line : ℕ) (g g' : List ℕ → Option Arg) (space : Bool) (body : List Tok) → ServeAlike body g g' →
    subst (record { function = true; variadic = variadic; arg = g; line = line }) space body ≡ subst (record { function = true; variadic = variadic; arg = g'; line = line }) space body

-- arguments that are alike place by place serve a list alike (args-serve)
abbrev pub ServesByPlace : Type 0
ServesByPlace = (body : List Tok) (names : List (List ℕ)) (args args' : List Arg) → ArgsAlike body names args args' → ServeAlike body (arg_named names args) (arg_named names args')
