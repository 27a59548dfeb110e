use Rattle.std.proofs.Common.{◌≡◌, ap, sym, ◌∙◌, subst}
use Rattle.reducer.specs.Answers.{content_of}
use Rattle.unit_steps.specs.UnitView.{given}
use Rattle.unit_scan.specs.declared.stage.Stage.TheVariants as StageIs
use Rattle.unit_scan.specs.Standing.{Standing}
use Rattle.unit_scan.specs.UnitInside.{setup_of, view_of}
use Rattle.unit_scan.proofs.Giving.{given_stands, given_view}
use Rattle.unit_scan.proofs.Fitting.{stage_fits}
use Rattle.unit_scan.proofs.unit.Unit.give.Goals as goal

pub take_answer-requires : goal.take_answer-requires
take_answer-requires c =
    let u = c.self.inside in
    let is : u.stage ≡ StageIs.Asks c.in-Asks.lookup c.in-Asks.path = cc in
    (subst (λ z. Standing (setup_of u) u.run z) is c.self.invariant).room

pub invariant_of-self : goal.invariant_of-self
invariant_of-self c =
    let u = c.self.inside in
    let is : u.stage ≡ StageIs.Asks c.in-Asks.lookup c.in-Asks.path = cc in
    let asking = subst (λ z. Standing (setup_of u) u.run z) is c.self.invariant in
    let after = given_stands (setup_of u) u.run c.take_answer.new.run.log c.in-Asks.path c.in-Asks.lookup asking (content_of c.args.answer) c.take_answer.ensures.log in
    subst (λ z. Standing (setup_of u) z c.take_answer.result) (sym c.take_answer.ensures.run)
    (subst (λ z. Standing (setup_of u) (record u.run { log = c.take_answer.new.run.log }) z) (sym c.take_answer.ensures.stage) after)

pub returns-clause-value : goal.returns-clause-value
returns-clause-value c =
    let u = c.self.inside in
    let is : u.stage ≡ StageIs.Asks c.in-Asks.lookup c.in-Asks.path = cc in
    let asking = subst (λ z. Standing (setup_of u) u.run z) is c.self.invariant in
    ap (λ z. view_of (record u { run = z; stage = c.take_answer.result })) c.take_answer.ensures.run
    ∙ ap (λ z. view_of (record u { run = record u.run { log = c.take_answer.new.run.log }; stage = z })) c.take_answer.ensures.stage
    ∙ given_view u c.take_answer.new.run.log c.in-Asks.path c.in-Asks.lookup (content_of c.args.answer) is asking c.take_answer.ensures.log
    ∙ ap (λ z. given z (content_of c.args.answer)) c.self.view_is

pub returns-clause-fits : goal.returns-clause-fits
returns-clause-fits c =
    let u = c.self.inside in
    stage_fits (setup_of u) c.take_answer.new.run c.take_answer.result (invariant_of-self c)
