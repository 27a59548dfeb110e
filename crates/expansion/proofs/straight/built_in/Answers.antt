use Rattle.std.proofs.Common.{◌≡◌, ap, refl, List}
use Rattle.scan_model.specs.declared.token.Tok.{Tok}
use Rattle.scan_model.specs.declared.macros.BuiltIn.{BuiltIn}
use Rattle.scan_model.specs.Expansion.{Scope, built_in}
use Rattle.expansion_laws.specs.Turns.{expands}
use Rattle.expansion.specs.declared.straight.Step.{Step}
use Rattle.expansion.specs.Straight.{Settles, mark, marks}
use Rattle.expansion.proofs.StraightLemmas.{settles-built_in, settles-along}
use Rattle.expansion.proofs.straight.built_in.Goals as goal

-- which built-in name it is
which-along : (e : Scope) (name : Tok) (rest : List Tok) (which known : BuiltIn) (step : Step) → which ≡ known →
    Settles e (λ cost counter. built_in (expands e) e known (mark name) (marks rest) cost counter) rest step → Settles e (λ cost counter. built_in (expands e) e which (mark name) (marks rest) cost counter) rest step
which-along e name rest which known step is h =
    settles-along e (λ cost counter. built_in (expands e) e known (mark name) (marks rest) cost counter) (λ cost counter. built_in (expands e) e which (mark name) (marks rest) cost counter) rest step
    (λ cost counter le. ap (λ (w : BuiltIn). built_in (expands e) e w (mark name) (marks rest) cost counter) is) h

pub returns-in_ok-in_place-in-Cplusplus : goal.returns-in_ok-in_place-in-Cplusplus
returns-in_ok-in_place-in-Cplusplus c = λ e.
    which-along e c.args.name.now c.args.rest.now _ _ _ c.in-Cplusplus.is
    (settles-built_in e c.args.name.now c.args.rest.now _ _ c.in_ok-in_place-in-Cplusplus.ensures refl)

pub returns-in_ok-as_it_is-in-HasInclude : goal.returns-in_ok-as_it_is-in-HasInclude
returns-in_ok-as_it_is-in-HasInclude c = λ e.
    which-along e c.args.name.now c.args.rest.now _ _ _ c.in-HasInclude.is (c.in_ok-as_it_is-in-HasInclude.ensures e)

pub returns-in_ok-as_it_is-in-HasIncludeNext : goal.returns-in_ok-as_it_is-in-HasIncludeNext
returns-in_ok-as_it_is-in-HasIncludeNext c = λ e.
    which-along e c.args.name.now c.args.rest.now _ _ _ c.in-HasIncludeNext.is (c.in_ok-as_it_is-in-HasIncludeNext.ensures e)

pub returns-in_ok-as_it_is-in-HasAttribute : goal.returns-in_ok-as_it_is-in-HasAttribute
returns-in_ok-as_it_is-in-HasAttribute c = λ e.
    which-along e c.args.name.now c.args.rest.now _ _ _ c.in-HasAttribute.is (c.in_ok-as_it_is-in-HasAttribute.ensures e)
