use Rattle.std.proofs.Common.{sym, ◌∙◌, ap, ◌+◌, List, ℕ, arith}
use Rattle.scan_model.specs.declared.expansion.Expanded.TheVariants as Gives
use Rattle.scan_model.specs.declared.token.Kind.TheVariants.{Number}
use Rattle.scan_model.specs.Substitution as spec
use Rattle.scan_model.specs.Expansion.{out, instead, in_text}
use Rattle.substitution.specs.Meaning.{marked_of, all_marked_of}
use Rattle.expansion_laws.specs.Turns.{expands}
use Rattle.expansion.specs.States.{continued, scope_of}
use Rattle.expansion.proofs.RescanLemmas.{ends-as, paid-over, paid-within}
use Rattle.expansion.proofs.StepLemmas.{choose-true, choose-false, turns-at}
use Rattle.expansion.proofs.machine.Machine.counts.Goals as goal

pub returns-then-not-is_text : goal.returns-then-not-is_text
returns-then-not-is_text c =
    ends-as (scope_of c.args.scope.now) c.args.self.now _ Gives.Counter (choose-false (in_text c.args.scope.now.mode) _ _ (sym c.is_text.ensures ∙ c.if-not-is_text.true))

pub returns-then-self-gt-COST_LIMIT : goal.returns-then-self-gt-COST_LIMIT
returns-then-self-gt-COST_LIMIT c =
    ends-as (scope_of c.args.scope.now) c.args.self.now _ Gives.TooLong
    (choose-true (in_text c.args.scope.now.mode) _ _ (sym c.is_text.ensures ∙ c.if-not-is_text.false) ∙ paid-over (c.args.self.now.cost + 2) _ (omega (arith, c.if-self-gt-COST_LIMIT.true)))

pub returns : goal.returns
returns c =
    let m = c.args.self.now in
    let e = scope_of c.args.scope.now in
    turns-at c.goes_out.result e _ _ _ _ _
    (ap (λ (t : spec.Marked). continued e m (out t (expands e (all_marked_of m.sets m.todo.first) (m.cost + 2) (m.counter + 1))))
    (c.instead.ensures.value m.sets ∙ ap (λ (t : List ℕ). instead Number t (marked_of m.sets c.args.name)) c.in_ok-text.ensures)
    ∙ ap (continued e m) (sym (choose-true (in_text c.args.scope.now.mode) _ _ (sym c.is_text.ensures ∙ c.if-not-is_text.false)
    ∙ paid-within (m.cost + 2) _ (omega (arith, c.if-self-gt-COST_LIMIT.false)))))
    (omega arith) c.goes_out.ensures
