use Rattle.std.proofs.Common.{◌≡◌, sym, ◌∙◌, ap, refl, List, [], ◌∷◌, ℕ, arith}
use Rattle.std.specs.Prelude.{Option, Some, None}
use Rattle.std.specs.Option.{option_copied}
use Rattle.std.specs.Borrow.{Bor}
use Rattle.scan_model.specs.declared.macros.Def.{Def}
use Rattle.scan_model.specs.declared.macros.Def.TheVariants as DefIs
use Rattle.scan_model.specs.Expansion as expansion
use Rattle.scan_model.specs.Expansion.{Ran, by_def}
use Rattle.scan_model.specs.declared.token.Tok.{Tok}
use Rattle.scan_model.specs.Parentheses.{in_parens}
use Rattle.hide_sets.specs.Sets.{Sets}
use Rattle.substitution.specs.declared.marked.Marked.{Marked}
use Rattle.substitution.specs.Meaning.{marked_of, all_marked_of}
use Rattle.expansion_laws.specs.Turns.{expands}
use Rattle.list_stack.specs.Stacks.{is_called}
use Rattle.expansion.specs.declared.machine.Machine.{Machine}
use Rattle.expansion.specs.States.{continued, scope_of}
use Rattle.expansion.proofs.StepLemmas.{turns-at, turns-on, choose-true, choose-false}
use Rattle.expansion.proofs.machine.Machine.replace_name.Goals as goal

-- the end by the definition that was found
found : (e : expansion.Scope) (m : Machine) (name : Marked) (text : List ℕ) (x y : Option Def) → x ≡ y → y ≡ e.defs text → text ≡ name.tok.text →
    continued e m (by_def (expands e) e (marked_of m.sets name) (all_marked_of m.sets m.todo.first) m.cost m.counter x) ≡ continued e m (by_def (expands e) e (marked_of m.sets name) (all_marked_of m.sets m.todo.first) m.cost m.counter (e.defs name.tok.text))
found e m name text x y h k t = ap (λ (o : Option Def). continued e m (by_def (expands e) e (marked_of m.sets name) (all_marked_of m.sets m.todo.first) m.cost m.counter o)) (h ∙ k ∙ ap e.defs t)

called-same : (e : expansion.Scope) (sets : Sets) (ms : List Marked) → expansion.is_called (expands e) e (all_marked_of sets ms) ≡ is_called ms
called-same e sets [] = refl
called-same e sets (m ∷ ms) = refl

pub returns-in-None : goal.returns-in-None
returns-in-None c =
    let e = scope_of c.args.scope.now in
    turns-at c.goes_out.result e _ _ _ _ _
    (found e c.args.self.now c.args.name c.as_slice.result.now None _ refl c.in-None.ensures.value c.as_slice.ensures) (omega arith) c.goes_out.ensures

-- what the look-up found
some_found : (o : Option (Bor Def)) (r : Bor Def) (d : Def) → o ≡ Some r → r.now ≡ d → Some d ≡ option_copied o
some_found o r d h k = let some : Def → Option Def = λ (d : Def). Some d in ap some (sym k) ∙ ap (option_copied {T = Def}) (sym h)

pub returns-in-Some-BuiltIn : goal.returns-in-Some-BuiltIn
returns-in-Some-BuiltIn c =
    let e = scope_of c.args.scope.now in
    turns-on c.built_in.result e _ _ _ _ _
    (found e c.args.self.now c.args.name c.as_slice.result.now (Some (DefIs.BuiltIn c.in-Some-BuiltIn.which)) _ (some_found c.get.result c.in-Some-BuiltIn.field-0 _ c.in-Some-BuiltIn.is c.in-Some-BuiltIn.field-0-is) c.get.ensures.value c.as_slice.ensures)
    (omega arith) c.built_in.ensures

pub returns-in-Some-Object : goal.returns-in-Some-Object
returns-in-Some-Object c =
    let e = scope_of c.args.scope.now in
    let m = c.args.self.now in
    turns-at c.object.result e _ _ _ _ _
    (ap (λ (body : List Tok). continued e m (by_def (expands e) e (marked_of m.sets c.args.name) (all_marked_of m.sets m.todo.first) m.cost m.counter (Some (DefIs.Object body)))) c.as_slice-in-Some-Object.ensures
    ∙ found e m c.args.name c.as_slice.result.now (Some (DefIs.Object c.in-Some-Object.body)) _ (some_found c.get.result c.in-Some-Object.field-0 _ c.in-Some-Object.is c.in-Some-Object.field-0-is) c.get.ensures.value c.as_slice.ensures)
    (omega arith) c.object.ensures

pub returns-then-is_called : goal.returns-then-is_called
returns-then-is_called c =
    let e = scope_of c.args.scope.now in
    let m = c.args.self.now in
    turns-at c.call.result e _ _ _ _ _
    (ap (continued e m) (sym (choose-true (expansion.is_called (expands e) e (all_marked_of m.sets m.todo.first)) _ _ (called-same e m.sets m.todo.first ∙ sym c.is_called.ensures ∙ c.if-is_called.true)))
    ∙ found e m c.args.name c.as_slice.result.now (Some (DefIs.Function c.in-Some-Function.definition)) _ (some_found c.get.result c.in-Some-Function.field-0 _ c.in-Some-Function.is c.in-Some-Function.field-0-is) c.get.ensures.value c.as_slice.ensures)
    (omega arith) c.call.ensures

pub returns-else-is_called : goal.returns-else-is_called
returns-else-is_called c =
    let e = scope_of c.args.scope.now in
    let m = c.args.self.now in
    turns-at c.goes_out-else-is_called.result e _ _ _ _ _
    (ap (continued e m) (sym (choose-false (expansion.is_called (expands e) e (all_marked_of m.sets m.todo.first)) (expansion.call (expands e) e c.in-Some-Function.definition (marked_of m.sets c.args.name) m.cost m.counter (in_parens (λ m. m.tok) (all_marked_of m.sets m.todo.first))) _ (called-same e m.sets m.todo.first ∙ sym c.is_called.ensures ∙ c.if-is_called.false)))
    ∙ found e m c.args.name c.as_slice.result.now (Some (DefIs.Function c.in-Some-Function.definition)) _ (some_found c.get.result c.in-Some-Function.field-0 _ c.in-Some-Function.is c.in-Some-Function.field-0-is) c.get.ensures.value c.as_slice.ensures)
    (omega arith) c.goes_out-else-is_called.ensures
