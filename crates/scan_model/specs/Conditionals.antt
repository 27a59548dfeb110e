-- What conditionals do ([cpp.cond]).
use Rattle.std.specs.Prelude.{Bool, true, false, not, if◌then◌else◌, List, [], ◌∷◌, Option, Some, None, is_some}
use Rattle.std.specs.declared.result.Result.{Result}
use Rattle.std.specs.declared.result.Result.TheVariants.{Ok, Err}
use Rattle.scan_model.specs.declared.token.Kind.TheVariants.{Ident}
use Rattle.scan_model.specs.declared.token.Tok.{Tok}
use Rattle.scan_model.specs.declared.token.Line.{Line}
use Rattle.scan_model.specs.declared.condition.CondValue.{CondValue}
use Rattle.scan_model.specs.declared.condition.CondFault.{CondFault}
use Rattle.scan_model.specs.declared.unit_end.FaultKind.{FaultKind}
use Rattle.scan_model.specs.TokenTests.{is_of}
use Rattle.scan_model.specs.HeaderName.{Term, Plain, Has, terms}
use Rattle.scan_model.specs.Condition.{value}
use Rattle.scan_model.specs.ConditionValue.{is_nonzero}
use Rattle.scan_model.specs.Paths.{folder}
use Rattle.scan_model.specs.Files.{FileMap}
use Rattle.scan_model.specs.State.{Group, Setup, Core}
use Rattle.scan_model.specs.Effect.{Effect, Now, fault, place_of, stop}
use Rattle.scan_model.specs.Replacing.{with_replaced}
use Rattle.scan_model.specs.Search.{searched, search_form, with_found}
use Rattle.scan_model.specs.declared.expansion.Mode.TheVariants as ModeIs
use Rattle.scan_model.specs.declared.condition.CondFault.TheVariants as CondIs
use Rattle.scan_model.specs.declared.unit_end.FaultKind.TheVariants as FaultIs

-- ## Conditions

abbrev pub fault_of : CondFault → FaultKind
fault_of CondIs.BadCondition = FaultIs.BadCondition
fault_of CondIs.DivisionByZero = FaultIs.DivisionByZero
fault_of CondIs.BadShift = FaultIs.BadShift
fault_of CondIs.BadNumber = FaultIs.BadNumber
fault_of CondIs.ConditionTooDeep = FaultIs.ConditionTooDeep

-- each `__has_include` and `__has_include_next` looked up in order, and then what `further` makes of the answers
abbrev pub with_has_values : {X : Type 0} → FileMap X → Setup → Line → List Term → Core → (List Bool → Core → Effect X) → Effect X
with_has_values files setup l [] c further = further [] c
with_has_values files setup l (Plain t ∷ ts) c further = with_has_values files setup l ts c further
with_has_values files setup l (Has next form name ∷ ts) c further =
    with_found files (place_of c l) (searched setup (record { form = search_form next c.chain_place form; name = name; after = [] }) (folder c.path)) c
    (λ c. with_has_values files setup l ts c (λ has. further (false ∷ has)))
    (λ path text c. with_has_values files setup l ts c (λ has. further (true ∷ has)))

abbrev pub on_value : {X : Type 0} → Line → (Bool → Core → Effect X) → Result CondValue CondFault → Core → Effect X
on_value l further (Ok v) c = further (is_nonzero v) c
on_value l further (Err fault) c = stop (fault_of fault) c l

abbrev pub on_terms : {X : Type 0} → FileMap X → Setup → Core → Line → List Tok → (Bool → Core → Effect X) → Option (List Term) → Effect X
on_terms files setup c l toks further None = stop FaultIs.BadCondition c l
on_terms files setup c l toks further (Some ts) = with_has_values files setup l ts c (λ has. on_value l further (value toks has))

-- the condition's value, and then what `further` makes of it
abbrev pub with_condition : {X : Type 0} → FileMap X → Setup → Core → Line → List Tok → (Bool → Core → Effect X) → Effect X
with_condition files setup c l toks further =
    with_replaced ModeIs.Condition c l toks (λ replaced. on_terms files setup c l replaced further (terms replaced))

-- the same for whether a name is defined
abbrev pub with_defined : {X : Type 0} → Core → Line → List Tok → (Bool → Core → Effect X) → Effect X
with_defined c l [] further = stop FaultIs.BadCondition c l
with_defined c l (t ∷ ts) further = let known = further (is_some (c.macros.defs t.text)) c in
    if is_of Ident t then known else stop FaultIs.BadCondition c l

-- ## Conditionals

-- the last group that was opened isn't live
abbrev pub is_skipped : List Group → Bool
is_skipped [] = false
is_skipped (g ∷ gs) = not g.live

abbrev pub opened : {X : Type 0} → Line → Bool → Core → Effect X
opened l live c = Now (record c { stack = record { line = l.line; live = live; taken = live; past_else = false } ∷ c.stack })

-- one in a skipped group
abbrev pub opened_skipped : {X : Type 0} → Line → Core → Effect X
opened_skipped l c = Now (record c { stack = record { line = l.line; live = false; taken = true; past_else = false } ∷ c.stack })

abbrev pub with_group : {X : Type 0} → Group → List Group → Core → Effect X
with_group g gs c = Now (record c { stack = g ∷ gs })

-- what a condition is of: an `#if`, or an `#elif` of the first group, before the others
pub data Opening : Type 0 where
  OfIf : Opening
  OfElif : Group → List Group → Opening

abbrev pub opening_of : Bool → List Group → Opening
opening_of true (g ∷ gs) = OfElif g gs
opening_of is_elif gs = OfIf

-- what the condition's value does
abbrev pub on_chosen : {X : Type 0} → Line → Opening → Bool → Core → Effect X
on_chosen l OfIf = opened l
on_chosen l (OfElif g gs) = λ yields. with_group (record g { live = yields; taken = yields }) gs

-- the next group of a conditional, whose condition is asked only where no group was taken
abbrev pub next_group : {X : Type 0} → Core → Line → ((Bool → Core → Effect X) → Effect X) → List Group → Effect X
next_group c l condition [] = stop FaultIs.Unbalanced c l
next_group c l condition (g ∷ gs) =
    let chosen = condition (λ yields. with_group (record g { live = yields; taken = yields }) gs) in
    if g.past_else then stop FaultIs.Unbalanced c l
    else if g.taken then with_group (record g { live = false }) gs c
    else chosen

abbrev pub elif_line : {X : Type 0} → FileMap X → Setup → Core → Line → List Tok → List Group → Effect X
elif_line files setup c l ts gs = next_group c l (with_condition files setup c l ts) gs

abbrev pub elifdef_line : {X : Type 0} → Core → Line → List Tok → List Group → Effect X
elifdef_line c l ts gs = next_group c l (with_defined c l ts) gs

abbrev pub elifndef_line : {X : Type 0} → Core → Line → List Tok → List Group → Effect X
elifndef_line c l ts gs = next_group c l (λ further. with_defined c l ts (λ yields. further (not yields))) gs

abbrev pub else_line : {X : Type 0} → Core → Line → List Group → Effect X
else_line c l [] = stop FaultIs.Unbalanced c l
else_line c l (g ∷ gs) =
    if g.past_else then stop FaultIs.Unbalanced c l
    else with_group (record g { live = not g.taken; taken = true; past_else = true }) gs c

abbrev pub endif_line : {X : Type 0} → Core → Line → List Group → Effect X
endif_line c l [] = stop FaultIs.Unbalanced c l
endif_line c l (g ∷ gs) = Now (record c { stack = gs })
