-- The value of a condition, or the first fault ([cpp.cond]).
use Rattle.std.specs.Prelude.{ℕ, ◌+◌, Bool, true, false, ◌&&◌, ◌||◌, nat_lt, if◌then◌else◌, List, [], ◌∷◌, Option, Some, None, is_some, is_none, codes}
use Rattle.std.specs.Option.{option_map_or}
use Rattle.std.specs.List.{list_any}
use Rattle.std.specs.declared.result.Result.{Result}
use Rattle.std.specs.declared.result.Result.TheVariants.{Err}
use Rattle.scan_model.specs.declared.token.Kind.TheVariants.{Number, Char}
use Rattle.scan_model.specs.declared.token.Tok.{Tok}
use Rattle.scan_model.specs.declared.condition.CondValue.{CondValue}
use Rattle.scan_model.specs.declared.condition.CondFault.{CondFault}
use Rattle.scan_model.specs.declared.condition.CondFault.TheVariants.{BadCondition, BadNumber, ConditionTooDeep}
use Rattle.scan_model.specs.TokenTests.{is_of, is_sign}
use Rattle.scan_model.specs.Parentheses.{depth_after}
use Rattle.scan_model.specs.HeaderName.{Term, Plain, Has, terms}
use Rattle.scan_model.specs.Literals.{integer, char_value}
use Rattle.scan_model.specs.ConditionTree.{unary_operators, tree, operator_of, levels, Tree}
use Rattle.scan_model.specs.ConditionValue.{evaluate}

-- ## Faults that come before

abbrev pub is_bad_literal : Tok → Bool
is_bad_literal t =
    let number = is_none (integer t.text) in
    let char = is_none (char_value t.text) in
    if is_of Number t then number else if is_of Char t then char else false

abbrev pub is_operator : Tok → Bool
is_operator t = list_any (λ ops. is_some (operator_of ops t)) levels || is_some (operator_of unary_operators t)

abbrev pub opens_operand : Option Tok → Bool
opens_operand None = true
opens_operand (Some t) = is_operator t || is_sign ("(" ∷ "?" ∷ ":" ∷ []) t

abbrev pub is_unary : Option Tok → Tok → Bool
is_unary before t = is_sign ("!" ∷ "not" ∷ "~" ∷ "compl" ∷ []) t || (is_sign ("+" ∷ "-" ∷ []) t && opens_operand before)

-- More than 256 parentheses are open at some place, or more unary operators stand in a row, or there are more `?`; so
-- many are open, stand right before and were there so far.
abbrev pub is_too_deep : ℕ → ℕ → ℕ → Option Tok → List Tok → Bool
is_too_deep opened row questions before [] = false
is_too_deep opened row questions before (t ∷ ts) =
    let now_open = depth_after t opened in
    let now_row = if is_unary before t then row + 1 else 0 in
    let now_questions = if is_sign ("?" ∷ []) t then questions + 1 else questions in
    nat_lt 256 now_open || nat_lt 256 now_row || nat_lt 256 now_questions || is_too_deep now_open now_row now_questions (Some t) ts

-- ## The whole

-- each `__has_include` and `__has_include_next` as the literal 1 or 0
abbrev pub has_literal : Bool → Tok
has_literal b = record { kind = Number; text = if b then codes "1" else codes "0"; space = true; line = 0 }

abbrev pub with_has : List Term → List Bool → List Tok
with_has [] has = []
with_has (Plain t ∷ rest) has = t ∷ with_has rest has
with_has (Has next form name ∷ rest) [] = with_has rest []
with_has (Has next form name ∷ rest) (b ∷ has) = has_literal b ∷ with_has rest has

abbrev pub value_of_tree : Option Tree → Result CondValue CondFault
value_of_tree None = Err BadCondition
value_of_tree (Some t) = evaluate t

abbrev pub value_of : List Tok → List Tok → Result CondValue CondFault
value_of toks known =
    let whole = value_of_tree (tree known) in
    if list_any is_bad_literal known then Err BadNumber
    else if is_too_deep 0 0 0 None toks then Err ConditionTooDeep
    else whole

-- the value of the one tree that the tokens make, or the first fault
unfoldable pub value : List Tok → List Bool → Result CondValue CondFault
value toks has = option_map_or (λ ts. value_of toks (with_has ts has)) (terms toks) (Err BadCondition)
