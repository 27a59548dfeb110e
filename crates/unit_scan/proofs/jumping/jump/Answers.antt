use Rattle.std.proofs.Common.{ap, sym, ◌∙◌, subst, reverse}
use Rattle.unit_scan.specs.declared.stage.Stage.TheVariants as StageIs
use Rattle.unit_scan.specs.Parts.{setup_of}
use Rattle.unit_scan.specs.Standing.{FollowsJump}
use Rattle.unit_scan.proofs.Stacks.{top_first}
use Rattle.unit_scan.proofs.Leaping.{jump_follows, unbalanced_follows}
use Rattle.unit_scan.proofs.jumping.jump.Goals as goal

pub returns-in_ok-push-in-Ok-clause-next : goal.returns-in_ok-push-in-Ok-clause-next
returns-in_ok-push-in-Ok-clause-next c =
    let file = c.in-Some.file in
    let below = c.pop.new.self.items in
    let on_stack = c.in-Some.ensures.items in
    jump_follows (setup_of c.args.scan.now) c.args.run.now c.requires file (reverse below) (ap reverse on_stack ∙ top_first below file)
    c.in-Ok.place c.in-Ok.ensures below on_stack c.push.new.self c.in_ok-push-in-Ok.ensures.items

pub returns-in_ok-end-in-Err-clause-next : goal.returns-in_ok-end-in-Err-clause-next
returns-in_ok-end-in-Err-clause-next c =
    let setup = setup_of c.args.scan.now in
    let run = c.args.run.now in
    let h = c.requires in
    subst (λ e. FollowsJump setup run run (StageIs.Over e)) (sym c.in_ok-end-in-Err.ensures)
    (unbalanced_follows setup run h h.taken.0 h.taken.1.0 h.taken.1.1.0 c.in-Err.line c.in-Err.ensures)
