-- The value of the whole condition.
use Rattle.std.proofs.Common.{◌≡◌, ℕ, ◌+◌, Bool, true, false, cond, List, [], ◌∷◌, length, ap, sym, ◌∙◌, refl, arith}
use Rattle.std.specs.Prelude.{Option, Some, None, is_some, not, ◌==◌}
use Rattle.std.specs.Option.{option_map, option_map_or, option_and_then}
use Rattle.std.specs.List.{list_any}
use Rattle.std.specs.declared.result.Result.{Result}
use Rattle.std.specs.declared.result.Result.TheVariants.{Err}
use Rattle.scan_model.specs.declared.token.Tok.{Tok}
use Rattle.scan_model.specs.declared.condition.CondValue.{CondValue}
use Rattle.scan_model.specs.declared.condition.CondFault.{CondFault}
use Rattle.scan_model.specs.declared.condition.CondFault.TheVariants.{BadCondition, BadNumber, ConditionTooDeep}
use Rattle.scan_model.specs.ConditionTree.{Parsed, complete, conditional, tree}
use Rattle.scan_model.specs.HeaderName.{Term, terms}
use Rattle.scan_model.specs.Condition.{is_bad_literal, is_too_deep, with_has, value_of_tree, value_of, value}
use Rattle.if_values.specs.declared.operand.Operand.{Operand}
use Rattle.if_values.specs.declared.known_tokens.Item.{Item}
use Rattle.if_values.specs.Items.{token_of, first_of}
use Rattle.if_values.specs.Known.{has_count, HasEntries, known}
use Rattle.if_values.specs.Reading.{Read, reading, read_of, ReadsConditional}
use Rattle.if_values.proofs.ReadingLemmas.{conditional_follows}

-- the value of an operand that nothing follows
abbrev value_read : Option Read → Result CondValue CondFault
value_read None = Err BadCondition
value_read (Some r) = cond (length r.after == 0) r.operand.value (Err BadCondition)

completed : (b : Bool) (p : Parsed) → length p.after == 0 ≡ b → value_of_tree (complete p) ≡ cond b (read_of p).operand.value (Err BadCondition)
completed true p e = rw e refl
completed false p e = rw e refl

value_is : (o : Option Parsed) → value_of_tree (option_and_then complete o) ≡ value_read (option_map read_of o)
value_is None = refl
value_is (Some p) = completed (length p.after == 0) p refl

tree-value : (known left : List Tok) (result : Option Operand) → ReadsConditional known result left → value_of_tree (tree known) ≡ value_read (option_map (reading left) result)
unfolding tree
tree-value known left result h = value_is (conditional (length known + 1) known) ∙ ap value_read (conditional_follows (length known + 1) known ∙ h (length known + 1) (omega arith))

ended_by : (o : Option Item) (left : List Tok) (b : Bool) → option_map token_of o ≡ first_of left → is_some o ≡ not b → (length left == 0) ≡ b
ended_by None [] true e f = refl
ended_by None [] false e f = cc
ended_by None (t ∷ ts) b e f = cc
ended_by (Some i) [] b e f = cc
ended_by (Some i) (t ∷ ts) true e f = cc
ended_by (Some i) (t ∷ ts) false e f = grind arith

-- the value where the climb gives an operand, and whether anything follows it
pub whole-read : (toks : List Tok) (has : List Bool) (start left : List Tok) (condition : Operand) (next : Option Item) (b : Bool) → start ≡ known toks has → ReadsConditional start (Some condition) left → option_map token_of next ≡ first_of left → is_some next ≡ not b → cond b condition.value (Err BadCondition) ≡ value_of_tree (tree (known toks has))
whole-read toks has start left condition next b e h f g =
    ap (λ (u : Bool). cond u condition.value (Err BadCondition)) (sym (ended_by next left b f g)) ∙ (sym (tree-value start left (Some condition) h) ∙ ap (λ (ts : List Tok). value_of_tree (tree ts)) e)

pub whole-none : (toks : List Tok) (has : List Bool) (start left : List Tok) → start ≡ known toks has → ReadsConditional start None left → Err BadCondition ≡ value_of_tree (tree (known toks has))
whole-none toks has start left e h = sym (tree-value start left None h) ∙ ap (λ (ts : List Tok). value_of_tree (tree ts)) e

value_by : (toks : List Tok) (has : List Bool) (n : ℕ) (o : Option (List Term)) → option_map has_count o ≡ Some n → option_map_or (λ ts. value_of toks (with_has ts has)) o (Err BadCondition) ≡ value_of toks (option_map_or (λ ts. with_has ts has) o [])
value_by toks has n None h = cc
value_by toks has n (Some ts) h = refl

value-known : (toks : List Tok) (has : List Bool) → HasEntries toks has → value toks has ≡ value_of toks (known toks has)
unfolding value
value-known toks has h = value_by toks has (length has) (terms toks) h

-- the faults in their order
pub value-by : (toks : List Tok) (has : List Bool) (bad deep : Bool) → HasEntries toks has → bad ≡ list_any is_bad_literal (known toks has) → deep ≡ is_too_deep 0 0 0 None toks → value toks has ≡ cond bad (Err BadNumber) (cond deep (Err ConditionTooDeep) (value_of_tree (tree (known toks has))))
value-by toks has bad deep h e f = let all = value-known toks has h in rw (e, f) all
