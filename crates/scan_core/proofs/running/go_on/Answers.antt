use Rattle.std.proofs.Common.{◌≡◌, ap, sym, ◌∙◌, subst}
use Rattle.std.specs.Prelude.{IfOk}
use Rattle.reducer.specs.Answers.{content_of}
use Rattle.unit_steps.specs.UnitView.{IsReady}
use Rattle.scan_core.proofs.RunningLemmas.{ready_after, memory_after, told_run}
use Rattle.scan_core.proofs.running.go_on.Goals as goal

pub run_on-requires : goal.run_on-requires
run_on-requires g c = record {
  ready = subst (λ z. IsReady z.phase) (sym c.give.ensures.value) (ready_after (content_of _));
  memory = λ e. memory_after (content_of _) (ap (λ z. z.phase) (sym c.give.ensures.value) ∙ e);
}

pub returns : goal.returns
returns g c = λ told same. told_run c.args.number c.args.unit c.give.new.self (content_of _) told c.run_on.result c.give.ensures.value (subst (λ z. IfOk z (λ answer. content_of answer ≡ told)) c.in_ok-answer.was same) c.run_on.ensures
