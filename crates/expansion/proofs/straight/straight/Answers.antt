use Rattle.std.proofs.Common.{sym, ◌∙◌, ap, subst, List, arith}
use Rattle.scan_model.specs.declared.token.Tok.{Tok}
use Rattle.scan_model.specs.declared.expansion.Expanded.{Expanded}
use Rattle.scan_model.specs.declared.expansion.Expanded.TheVariants as Gives
use Rattle.scan_model.specs.Expansion.{first_counter}
use Rattle.expansion.specs.States.{scope_of}
use Rattle.expansion.specs.Straight.{Settled}
use Rattle.expansion.proofs.StraightLemmas.{settled-none, settled-more, settled-all}
use Rattle.expansion.proofs.straight.straight.Goals as goal

pub steps-init : goal.steps-init
steps-init c = settled-none (scope_of c.args.scope.now) c.args.toks.now _ c.in_ok-list.ensures.items

pub steps-preserved : goal.steps-preserved
steps-preserved c =
    let e = scope_of c.args.scope.now in
    let toks = c.args.toks.now in
    let step = c.in-Some-2.step in
    let settles = rw c.in-Some-2.is at c.in_ok-step.ensures in
    subst (λ (list : List Tok). Settled e toks list step.left.now) (sym c.in_ok-push.ensures.items)
    (settled-more e toks c.steps.list.items c.steps.left.now c.in-Some.rest.now c.in-Some.first.now step (omega (arith, c.if-toks-gt-MOST_TOKENS.false)) c.steps.invariant c.in-Some.ensures.cases settles)

pub steps-smaller : goal.steps-smaller
steps-smaller c =
    let settles = rw c.in-Some-2.is at c.in_ok-step.ensures in
    let shorter = c.in-Some.ensures.cases.1 in
    omega (arith, settles.fewer, shorter)

pub returns : goal.returns
returns c =
    let e = scope_of c.args.scope.now in
    let done : List Tok → Expanded = λ (list : List Tok). Gives.Done list (first_counter e.mode) in
    settled-all e c.args.toks.now c.steps.list.items c.steps.left.now c.steps.invariant c.in_default.ensures.cases ∙ ap done (sym c.of_vec.ensures)
