use Rattle.std.proofs.Common.{◌∙◌, sym, ap, refl, arith}
use Rattle.std.specs.Prelude.{decimal}
use Rattle.scan_model.specs.declared.macros.BuiltIn.{BuiltIn}
use Rattle.scan_model.specs.declared.macros.BuiltIn.TheVariants as BuiltInIs
use Rattle.scan_model.specs.declared.token.Kind.TheVariants.{Str, Number}
use Rattle.scan_model.specs.Expansion.{built_in}
use Rattle.substitution.specs.Meaning.{marked_of, all_marked_of}
use Rattle.expansion_laws.specs.Turns.{expands}
use Rattle.expansion.specs.States.{continued, scope_of}
use Rattle.expansion.proofs.StepLemmas.{gives-as, turns-at}
use Rattle.expansion.proofs.machine.Machine.built_in.Goals as goal

pub returns-in_ok-text-in-File : goal.returns-in_ok-text-in-File
returns-in_ok-text-in-File c =
    gives-as c.gives.result (scope_of c.args.scope.now) c.args.self.now _ c.args.name _ BuiltInIs.File Str _ _ c.in-File.is
    (c.in_ok-text-in-File.ensures ∙ c.as_slice.ensures) refl c.gives.ensures

pub returns-in_ok-text-in-Line : goal.returns-in_ok-text-in-Line
returns-in_ok-text-in-Line c =
    gives-as c.gives-in-Line.result (scope_of c.args.scope.now) c.args.self.now _ c.args.name _ BuiltInIs.Line Number _ _ c.in-Line.is
    (c.in_ok-text-in-Line.ensures ∙ ap decimal c.presumed.ensures) refl c.gives-in-Line.ensures

pub returns-in_ok-text-in-Date : goal.returns-in_ok-text-in-Date
returns-in_ok-text-in-Date c =
    gives-as c.gives-in-Date.result (scope_of c.args.scope.now) c.args.self.now _ c.args.name _ BuiltInIs.Date Str _ _ c.in-Date.is
    (c.in_ok-text-in-Date.ensures) refl c.gives-in-Date.ensures

pub returns-in_ok-text-in-Time : goal.returns-in_ok-text-in-Time
returns-in_ok-text-in-Time c =
    gives-as c.gives-in-Time.result (scope_of c.args.scope.now) c.args.self.now _ c.args.name _ BuiltInIs.Time Str _ _ c.in-Time.is
    (c.in_ok-text-in-Time.ensures) refl c.gives-in-Time.ensures

pub returns-in_ok-text-in-Cplusplus : goal.returns-in_ok-text-in-Cplusplus
returns-in_ok-text-in-Cplusplus c =
    gives-as c.gives-in-Cplusplus.result (scope_of c.args.scope.now) c.args.self.now _ c.args.name _ BuiltInIs.Cplusplus Number _ _ c.in-Cplusplus.is
    (c.in_ok-text-in-Cplusplus.ensures) refl c.gives-in-Cplusplus.ensures

pub returns-in-HasInclude : goal.returns-in-HasInclude
returns-in-HasInclude c =
    let m = c.args.self.now in
    let e = scope_of c.args.scope.now in
    turns-at c.goes_out.result e _ _ _ _ _
    (ap (λ (b : BuiltIn). continued e m (built_in (expands e) e b (marked_of m.sets c.args.name) (all_marked_of m.sets m.todo.first) m.cost m.counter)) (sym c.in-HasInclude.is))
    (omega arith) c.goes_out.ensures

pub returns-in-HasAttribute : goal.returns-in-HasAttribute
returns-in-HasAttribute c =
    let m = c.args.self.now in
    let e = scope_of c.args.scope.now in
    turns-at c.goes_out-in-HasAttribute.result e _ _ _ _ _
    (ap (λ (b : BuiltIn). continued e m (built_in (expands e) e b (marked_of m.sets c.args.name) (all_marked_of m.sets m.todo.first) m.cost m.counter)) (sym c.in-HasAttribute.is))
    (omega arith) c.goes_out-in-HasAttribute.ensures

pub returns-in-HasIncludeNext : goal.returns-in-HasIncludeNext
returns-in-HasIncludeNext c =
    let m = c.args.self.now in
    let e = scope_of c.args.scope.now in
    turns-at c.goes_out-in-HasIncludeNext.result e _ _ _ _ _
    (ap (λ (b : BuiltIn). continued e m (built_in (expands e) e b (marked_of m.sets c.args.name) (all_marked_of m.sets m.todo.first) m.cost m.counter)) (sym c.in-HasIncludeNext.is))
    (omega arith) c.goes_out-in-HasIncludeNext.ensures
