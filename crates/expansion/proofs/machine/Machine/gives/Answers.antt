use Rattle.std.proofs.Common.{sym, ◌∙◌, ap, ◌+◌, arith}
use Rattle.scan_model.specs.declared.expansion.Expanded.TheVariants as Gives
use Rattle.scan_model.specs.Substitution as spec
use Rattle.scan_model.specs.Expansion.{out}
use Rattle.substitution.specs.Meaning.{all_marked_of}
use Rattle.expansion_laws.specs.Turns.{expands}
use Rattle.expansion.specs.States.{continued}
use Rattle.expansion.proofs.RescanLemmas.{ends-as, paid-over, paid-within}
use Rattle.expansion.proofs.StateLemmas.{turns-along}
use Rattle.expansion.proofs.machine.Machine.gives.Goals as goal

pub returns-then-self-gt-COST_LIMIT : goal.returns-then-self-gt-COST_LIMIT
returns-then-self-gt-COST_LIMIT c = λ e. ends-as e c.args.self.now _ Gives.TooLong (paid-over (c.args.self.now.cost + 2) _ (omega (arith, c.if-self-gt-COST_LIMIT.true)))

pub returns : goal.returns
returns c =
    let m = c.args.self.now in
    turns-along c.goes_out.result _ _ _ _ _
    (λ e. ap (λ (t : spec.Marked). continued e m (out t (expands e (all_marked_of m.sets m.todo.first) (m.cost + 2) m.counter))) (c.instead.ensures.value m.sets)
    ∙ ap (continued e m) (sym (paid-within (m.cost + 2) _ (omega (arith, c.if-self-gt-COST_LIMIT.false)))))
    (omega arith) c.goes_out.ensures
