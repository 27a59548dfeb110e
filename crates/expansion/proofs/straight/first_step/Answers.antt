use Rattle.std.proofs.Common.{sym, ◌∙◌, refl}
use Rattle.expansion_laws.proofs.TurnLemmas.{expands_first}
use Rattle.expansion.specs.States.{scope_of}
use Rattle.expansion.specs.Straight.{mark, marks}
use Rattle.expansion.proofs.StepLemmas.{first-other, first-defined, first-named}
use Rattle.expansion.proofs.StraightLemmas.{settles-along, ok-along}
use Rattle.expansion.proofs.straight.first_step.Goals as goal

pub returns-then-not-is_ident : goal.returns-then-not-is_ident
returns-then-not-is_ident c =
    let e = scope_of c.args.scope.now in
    let m = mark c.args.first.now in
    let rest = c.args.rest.now in
    settles-along e _ _ rest _
    (λ cost counter le. expands_first e m (marks rest) cost counter le ∙ first-other e m (marks rest) cost counter (sym c.is_ident.ensures ∙ c.if-not-is_ident.true))
    (c.in_ok-as_it_is.ensures e)

pub returns-then-is_defined_operator : goal.returns-then-is_defined_operator
returns-then-is_defined_operator c =
    let e = scope_of c.args.scope.now in
    let m = mark c.args.first.now in
    let rest = c.args.rest.now in
    ok-along e _ _ rest c.defined.result
    (λ cost counter le. expands_first e m (marks rest) cost counter le
    ∙ first-defined e m (marks rest) cost counter (sym c.is_ident.ensures ∙ c.if-not-is_ident.false) (sym c.is_defined_operator.ensures ∙ c.if-is_defined_operator.true))
    c.defined.ensures

pub returns : goal.returns
returns c =
    let e = scope_of c.args.scope.now in
    let m = mark c.args.first.now in
    let rest = c.args.rest.now in
    ok-along e _ _ rest c.named.result
    (λ cost counter le. expands_first e m (marks rest) cost counter le
    ∙ first-named e m (marks rest) cost counter (sym c.is_ident.ensures ∙ c.if-not-is_ident.false) (sym c.is_defined_operator.ensures ∙ c.if-is_defined_operator.false) refl)
    c.named.ensures
