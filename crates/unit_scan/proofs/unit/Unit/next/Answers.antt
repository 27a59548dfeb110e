use Rattle.std.proofs.Common.{ap, sym, ◌∙◌, subst}
use Rattle.unit_steps.specs.UnitView.{UnitView, IsReady, is_over}
use Rattle.std.specs.Prelude.{IfOk}
use Rattle.std.specs.declared.result.Result.TheVariants.{Ok}
use Rattle.unit_scan.specs.Turns.{Turns}
use Rattle.unit_scan.specs.Standing.{Holds, Standing, Arrives, IsMoving}
use Rattle.unit_scan.specs.UnitInside.{setup_of}
use Rattle.unit_scan.proofs.Arriving.{standing_holds, ready_moves, seen, turn_right}
use Rattle.unit_scan.proofs.Fitting.{stage_fits}
use Rattle.unit_scan.proofs.Turning.{over_not, spent_stands}
use Rattle.unit_scan.proofs.unit.Unit.next.Goals.{In-Ok}
use Rattle.unit_scan.proofs.unit.Unit.next.Goals as goal

pub run_on-requires-clause-holds : goal.run_on-requires-clause-holds
run_on-requires-clause-holds c =
    let u = c.self.inside in
    subst (λ z. Holds (setup_of u) u.run z) (sym c.replace-stage.ensures.value) (standing_holds (setup_of u) u.run u.stage c.self.invariant)

pub run_on-requires-clause-moves : goal.run_on-requires-clause-moves
run_on-requires-clause-moves c =
    let u = c.self.inside in
    let ready = subst (λ (z : UnitView). IsReady z.phase) (sym c.self.view_is) c.requires in
    let over = ap (λ (z : UnitView). is_over z.phase) c.self.view_is ∙ sym c.is_over.ensures ∙ c.if-is_over.false in
    subst IsMoving (sym c.replace-stage.ensures.value) (ready_moves (setup_of u) u.run u.stage ready over)

pub invariant_of-self-in-Err : goal.invariant_of-self-in-Err
invariant_of-self-in-Err c =
    let u = c.self.inside in
    subst (λ z. Standing (setup_of u) c.run_on.new.run z) (sym c.replace-stage.ensures.after)
    (spent_stands (setup_of u) u.run c.run_on.new.run u.stage c.self.invariant c.run_on.ensures.same)

pub returns-in-Err-clause-fits : goal.returns-in-Err-clause-fits
returns-in-Err-clause-fits c = stage_fits (setup_of c.self.inside) c.run_on.new.run c.replace-stage.new.dest (invariant_of-self-in-Err c)

arrived : (c : In-Ok) → Arrives (setup_of c.self.inside) c.self.inside.run c.run_on.new.run c.in-Ok.stage
arrived c = subst (λ r. IfOk r (λ next. Arrives (setup_of c.self.inside) c.self.inside.run c.run_on.new.run next)) c.in-Ok.is c.run_on.ensures.arrives

pub returns-in-Ok-clause-fits : goal.returns-in-Ok-clause-fits
returns-in-Ok-clause-fits c = stage_fits (setup_of c.self.inside) c.run_on.new.run c.in-Ok.stage (arrived (goal.at.returns-in-Ok-clause-fits c).In-Ok).stands

pub returns-in-Ok-clause-turn : goal.returns-in-Ok-clause-turn
returns-in-Ok-clause-turn c =
    let u = c.self.inside in
    subst (λ t. Turns c.args.self.now (seen (setup_of u) c.run_on.new.run c.in-Ok.stage) (Ok t)) (sym c.turn_at-turn.ensures)
    (turn_right (setup_of u) u.run c.run_on.new.run c.in-Ok.stage c.args.self.now (ap (λ (z : UnitView). z.work) (sym c.self.view_is)) (arrived (goal.at.returns-in-Ok-clause-turn c).In-Ok))

pub returns-in-Ok-clause-over : goal.returns-in-Ok-clause-over
returns-in-Ok-clause-over c over = absurd (over_not c.args.self.now.phase (sym c.is_over.ensures ∙ c.if-is_over.false) over)
