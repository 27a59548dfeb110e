use Rattle.std.proofs.Common.{◌≡◌, subst, sym, ap, ◌∙◌}
use Rattle.std.specs.Prelude.{Ok}
use Rattle.reducer.specs.Answers.{content_of}
use Rattle.unit_steps.specs.UnitView.{IsOver}
use Rattle.unit_scan.specs.declared.turn.Turn.TheVariants.{Ask, Done}
use Rattle.unit_scan.specs.Turns.{Turns}
use Rattle.shared_cache.specs.Callers.{number_of, seen_by}
use Rattle.worker.proofs.Seeing.{goes_of}
use Rattle.worker.proofs.Running.{running_turned, running_given, looks_while_waiting, looks_over, end_over, given_is_ready}
use Rattle.worker.proofs.units.run_unit.Goals as goal

pub turns-preserved : goal.turns-preserved
turns-preserved g c =
    let by = number_of c.args.passes.now in
    let u = c.next.new.self in
    let began = seen_by c.args.passes.now in
    let before = seen_by c.turns.passes in
    let now = seen_by c.ask.new.passes in
    let path = c.asked.result.now in
    let running = running_turned c.args.settings.now c.args.command.now by c.turns.unit u began before c.next.ensures.same c.turns.invariant.running in
    let turn : Turns c.turns.unit u (Ok Ask) = subst (λ z. Turns c.turns.unit u z) (c.in-Ok-Ask.is ∙ ap Ok c.in-Ok-Ask.field-0-is) c.next.ensures.turn in
    let content = content_of c.in-Ok-ask.answer in
    record {
      own = c.ask.ensures.own.0;
      number = c.ask.ensures.own.1 ∙ c.turns.invariant.number;
      memo = c.ask.ensures.memo;
      running =
          running_given c.args.settings.now c.args.command.now by u c.give.new.self path content began before now running turn.0 c.asked.ensures
          (goes_of by (number_of c.turns.passes) (λ other. other ≡ path) before now c.turns.invariant.number c.ask.ensures.goes) c.in-Ok-ask.ensures.seen c.give.ensures.value;
      ready = given_is_ready u c.give.new.self content c.give.ensures.value;
    }

pub returns-in-Err-ask-clause-goes : goal.returns-in-Err-ask-clause-goes
returns-in-Err-ask-clause-goes g c =
    let by = number_of c.args.passes.now in
    let u = c.next.new.self in
    let began = seen_by c.args.passes.now in
    let before = seen_by c.turns.passes in
    let now = seen_by c.ask.new.passes in
    let path = c.asked.result.now in
    let running = running_turned c.args.settings.now c.args.command.now by c.turns.unit u began before c.next.ensures.same c.turns.invariant.running in
    let turn : Turns c.turns.unit u (Ok Ask) = subst (λ z. Turns c.turns.unit u z) (c.in-Ok-Ask.is ∙ ap Ok c.in-Ok-Ask.field-0-is) c.next.ensures.turn in
    looks_while_waiting c.args.settings.now c.args.command.now by u path began before now running c.next.ensures.fits turn.0 c.asked.ensures
    (goes_of by (number_of c.turns.passes) (λ other. other ≡ path) before now c.turns.invariant.number c.ask.ensures.goes)

pub returns-in-Ok-Done-clause-end : goal.returns-in-Ok-Done-clause-end
returns-in-Ok-Done-clause-end g c =
    let by = number_of c.args.passes.now in
    let u = c.next.new.self in
    let began = seen_by c.args.passes.now in
    let now = seen_by c.turns.passes in
    let running = running_turned c.args.settings.now c.args.command.now by c.turns.unit u began now c.next.ensures.same c.turns.invariant.running in
    let turn : Turns c.turns.unit u (Ok Done) = subst (λ z. Turns c.turns.unit u z) (c.in-Ok-Done.is ∙ ap Ok c.in-Ok-Done.field-0-is) c.next.ensures.turn in
    rw c.finish.ensures (end_over c.args.settings.now c.args.command.now by u began now running c.next.ensures.fits turn.0)

pub returns-in-Ok-Done-clause-goes : goal.returns-in-Ok-Done-clause-goes
returns-in-Ok-Done-clause-goes g c =
    let by = number_of c.args.passes.now in
    let u = c.next.new.self in
    let began = seen_by c.args.passes.now in
    let now = seen_by c.turns.passes in
    let running = running_turned c.args.settings.now c.args.command.now by c.turns.unit u began now c.next.ensures.same c.turns.invariant.running in
    let turn : Turns c.turns.unit u (Ok Done) = subst (λ z. Turns c.turns.unit u z) (c.in-Ok-Done.is ∙ ap Ok c.in-Ok-Done.field-0-is) c.next.ensures.turn in
    looks_over c.args.settings.now c.args.command.now by u began now running c.next.ensures.fits turn.0

pub returns-in-Err-clause-goes : goal.returns-in-Err-clause-goes
returns-in-Err-clause-goes g c =
    let by = number_of c.args.passes.now in
    let u = c.next.new.self in
    let began = seen_by c.args.passes.now in
    let now = seen_by c.turns.passes in
    let running = running_turned c.args.settings.now c.args.command.now by c.turns.unit u began now c.next.ensures.same c.turns.invariant.running in
    looks_over c.args.settings.now c.args.command.now by u began now running c.next.ensures.fits (subst IsOver (sym c.in-Err.ensures.turn) tt)
