use Rattle.std.proofs.Common.{◌≡◌, sym, ◌∙◌, ap, refl, List, [], ◌∷◌, ℕ}
use Rattle.std.specs.Prelude.{Option, Some, None}
use Rattle.std.specs.Option.{option_copied}
use Rattle.std.specs.Borrow.{Bor}
use Rattle.scan_model.specs.declared.macros.Def.{Def}
use Rattle.scan_model.specs.declared.macros.Def.TheVariants as DefIs
use Rattle.scan_model.specs.declared.token.Tok.{Tok}
use Rattle.scan_model.specs.Parentheses.{in_parens}
use Rattle.scan_model.specs.TokenTests.{begins_with, is_open_paren}
use Rattle.scan_model.specs.Expansion.{Scope, by_def, call, is_called, out}
use Rattle.expansion_laws.specs.Turns.{expands}
use Rattle.expansion.specs.States.{scope_of}
use Rattle.expansion.specs.Straight.{mark, marks}
use Rattle.expansion.proofs.StepLemmas.{choose-false}
use Rattle.expansion.proofs.StraightLemmas.{settles-along, ok-along, ok-at}
use Rattle.expansion.proofs.straight.named.Goals as goal

-- by the definition that was found
found : (e : Scope) (name : Tok) (rest : List Tok) (text : List ℕ) (x y : Option Def) (cost counter : ℕ) → x ≡ y → y ≡ e.defs text → text ≡ name.text →
    by_def (expands e) e (mark name) (marks rest) cost counter (e.defs name.text) ≡ by_def (expands e) e (mark name) (marks rest) cost counter x
found e name rest text x y cost counter h k t = ap (by_def (expands e) e (mark name) (marks rest) cost counter) (sym (h ∙ k ∙ ap e.defs t))

-- what the look-up found
some_found : (o : Option (Bor Def)) (r : Bor Def) (d : Def) → o ≡ Some r → r.now ≡ d → Some d ≡ option_copied o
some_found o r d h k = let some : Def → Option Def = λ (d : Def). Some d in ap some (sym k) ∙ ap (option_copied {T = Def}) (sym h)

called-same : (e : Scope) (toks : List Tok) → is_called (expands e) e (marks toks) ≡ begins_with is_open_paren toks
called-same e [] = refl
called-same e (t ∷ toks) = refl

pub returns-in_ok-as_it_is-in-None : goal.returns-in_ok-as_it_is-in-None
returns-in_ok-as_it_is-in-None c =
    let e = scope_of c.args.scope.now in
    settles-along e _ _ c.args.rest.now _
    (λ cost counter le. found e c.args.name.now c.args.rest.now c.as_slice.result.now None _ cost counter refl c.in-None.ensures.value c.as_slice.ensures)
    (c.in_ok-as_it_is-in-None.ensures e)

pub returns-in-Some-BuiltIn : goal.returns-in-Some-BuiltIn
returns-in-Some-BuiltIn c =
    let e = scope_of c.args.scope.now in
    ok-at e _ _ c.args.rest.now c.built_in.result
    (λ cost counter le. found e c.args.name.now c.args.rest.now c.as_slice.result.now (Some (DefIs.BuiltIn c.in-Some-BuiltIn.which)) _ cost counter
    (some_found c.get.result c.in-Some-BuiltIn.field-0 _ c.in-Some-BuiltIn.is c.in-Some-BuiltIn.field-0-is) c.get.ensures.value c.as_slice.ensures)
    c.built_in.ensures

pub returns-in-Some-Object : goal.returns-in-Some-Object
returns-in-Some-Object c =
    let e = scope_of c.args.scope.now in
    ok-along e _ _ c.args.rest.now c.object.result
    (λ cost counter le. found e c.args.name.now c.args.rest.now c.as_slice.result.now (Some (DefIs.Object c.in-Some-Object.body)) _ cost counter
    (some_found c.get.result c.in-Some-Object.field-0 _ c.in-Some-Object.is c.in-Some-Object.field-0-is) c.get.ensures.value c.as_slice.ensures
    ∙ ap (λ (body : List Tok). by_def (expands e) e (mark c.args.name.now) (marks c.args.rest.now) cost counter (Some (DefIs.Object body))) (sym c.as_slice-in-Some-Object.ensures))
    c.object.ensures

pub returns-in_ok-as_it_is-in-Some-Function : goal.returns-in_ok-as_it_is-in-Some-Function
returns-in_ok-as_it_is-in-Some-Function c =
    let e = scope_of c.args.scope.now in
    let name = c.args.name.now in
    let rest = c.args.rest.now in
    settles-along e _ _ rest _
    (λ cost counter le. found e name rest c.as_slice.result.now (Some (DefIs.Function c.in-Some-Function.field-0-0)) _ cost counter
    (some_found c.get.result c.in-Some-Function.field-0 _ c.in-Some-Function.is c.in-Some-Function.field-0-is) c.get.ensures.value c.as_slice.ensures
    ∙ choose-false (is_called (expands e) e (marks rest)) (call (expands e) e c.in-Some-Function.field-0-0 (mark name) cost counter (in_parens (λ m. m.tok) (marks rest))) (out (mark name) (expands e (marks rest) cost counter))
    (called-same e rest ∙ sym c.is_called.ensures ∙ c.if-is_called.false))
    (c.in_ok-as_it_is-in-Some-Function.ensures e)
