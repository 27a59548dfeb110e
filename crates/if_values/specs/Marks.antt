-- Tests of what stands next.
use Rattle.std.specs.Prelude.{◌≡◌, ℕ, ◌≤◌, Bool, true, false, List, [], ◌∷◌, Option, Some, None, ⊤}
use Rattle.std.specs.Option.{option_and_then}
use Rattle.scan_model.specs.declared.token.Tok.{Tok}
use Rattle.scan_model.specs.TokenTests.{is_sign, is_close_paren, begins_with}
use Rattle.scan_model.specs.ConditionTree.{Binary, Spelt, operator_of}
use Rattle.if_values.specs.declared.marks.Mark.{Mark}
use Rattle.if_values.specs.declared.marks.Mark.TheVariants.{Question, Colon, Close}
use Rattle.if_values.specs.Items.{first_of}
use Rattle.if_values.specs.Levels.{level_of, levels_from, at_levels, only_at_its_level}

abbrev pub is_mark : Mark → Tok → Bool
is_mark Question t = is_sign ("?" ∷ []) t
is_mark Colon t = is_sign (":" ∷ []) t
is_mark Close t = is_close_paren t

-- a token that passes the test was passed, or none stands next and nothing was passed
abbrev pub Passes : (Tok → Bool) → List Tok → Bool → List Tok → Type 0
Passes test old true new = (t : Tok) × (old ≡ t ∷ new) × (test t ≡ true)
Passes test old false new = (new ≡ old) × (begins_with test old ≡ false)

-- no operator of these levels begins the tokens
abbrev pub IsPast : List (List (Spelt Binary)) → List Tok → Type 0
IsPast [] ts = ⊤
IsPast (ops ∷ tighter) ts = (option_and_then (operator_of ops) (first_of ts) ≡ None) × IsPast tighter ts

-- an operator of the level or a tighter one was passed, or none stands next and nothing was passed
abbrev pub PassesOperator : ℕ → List Tok → Option Binary → List Tok → Type 0
PassesOperator level old (Some op) new = (t : Tok) × (old ≡ t ∷ new) × (at_levels t ≡ only_at_its_level (Some op)) × (level ≤ level_of op)
PassesOperator level old None new = (new ≡ old) × IsPast (levels_from level) old
