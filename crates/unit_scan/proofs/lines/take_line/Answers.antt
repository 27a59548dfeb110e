use Rattle.std.proofs.Common.{subst}
use Rattle.unit_scan.specs.Parts.{setup_of, answers_of}
use Rattle.unit_scan.specs.Standing.{Follows, FollowsLine}
use Rattle.unit_scan.specs.Taking.{ActsAt}
use Rattle.unit_scan.specs.declared.parts.Run.{Run}
use Rattle.unit_scan.proofs.Taking.{taken_acted, taken_follows, ok_map}
use Rattle.unit_scan.proofs.lines.take_line.Goals.{In_ok-action}
use Rattle.unit_scan.proofs.lines.take_line.Goals as goal

acts : (c : In_ok-action) → ActsAt (answers_of c.args.run.now.log.items) c.args.scan.now.command.now.dialect c.in-Some.file c.args.run.now.state c.act_on.new.file c.act_on.new.state c.in_ok-action.action
acts c =
    subst (λ z. ActsAt (answers_of z) c.args.scan.now.command.now.dialect c.in-Some.file c.args.run.now.state c.act_on.new.file c.act_on.new.state c.in_ok-action.action) c.deref.ensures.value c.in_ok-action.ensures.acts

pub obey-requires : goal.obey-requires
obey-requires c =
    taken_acted (setup_of c.args.scan.now) c.args.run.now c.requires.running c.pop.new.self.items c.in-Some.file c.act_on.new.file c.in-Some.ensures.items c.in_ok-action.ensures.answer c.in_ok-action.ensures.next
    c.act_on.new.state c.push.new.self c.in_ok-push.ensures.items c.in_ok-action.action (acts (goal.at.obey-requires c).In_ok-action)

pub returns-clause-next : goal.returns-clause-next
returns-clause-next c =
    let now : Run = record c.args.run.now { stack = c.push.new.self; state = c.act_on.new.state } in
    ok_map (λ stage. FollowsLine (setup_of c.args.scan.now) now c.obey.new.run stage) (λ stage. Follows (setup_of c.args.scan.now) c.args.run.now 2 c.obey.new.run stage) c.obey.result
    (λ stage follows. taken_follows (setup_of c.args.scan.now) c.args.run.now c.requires.running c.pop.new.self.items c.in-Some.file c.act_on.new.file c.in-Some.ensures.items c.in_ok-action.ensures.answer c.in_ok-action.ensures.next
    c.act_on.new.state c.push.new.self c.in_ok-push.ensures.items c.in_ok-action.action (acts (goal.at.returns-clause-next c).In_ok-action) c.obey.new.run stage c.obey.ensures.same follows)
    c.obey.ensures.next
