use Rattle.std.proofs.Common.{sym, subst, ap, ◌∙◌}
use Rattle.scan_model.specs.Condition.{value}
use Rattle.scan_model.specs.Conditionals.{fault_of}
use Rattle.if_values.specs.Known.{HasEntries}
use Rattle.plain_lines.specs.Conditions.{chosen}
use Rattle.plain_lines.specs.States.{groups_of}
use Rattle.unit_scan.specs.declared.stage.Blame.TheVariants as BlameIs
use Rattle.unit_scan.specs.declared.stage.Stage.TheVariants as StageIs
use Rattle.unit_scan.specs.Parts.{setup_of}
use Rattle.unit_scan.specs.Standing.{Follows, blamed, stopped}
use Rattle.unit_scan.proofs.Testing.{all_answered, value_faulty, value_follows, value_skips, jump_after_value}
use Rattle.unit_scan.proofs.conditions.conclude.Goals as goal

pub value-requires : goal.value-requires
value-requires c =
    let t = c.args.testing.now in
    let over = c.requires.over in
    subst (λ z. HasEntries z c.deref.result.now) (sym c.as_slice.ensures)
    (subst (λ z. HasEntries t.toks z) (sym c.deref.ensures.value)
    (all_answered (setup_of c.args.scan.now) c.args.run.now t c.requires.condition over.0 over.1.0 over.1.1))

pub returns-then-live-clause-next : goal.returns-then-live-clause-next
returns-then-live-clause-next c =
    let t = c.args.testing.now in
    let over = c.requires.over in
    let file = c.in-Some.file in
    let line = c.taken_line-line.result in
    let is = ap (λ z. value z t.so_far.items) (sym c.as_slice.ensures) ∙ ap (value c.as_slice.result.now) (sym c.deref.ensures.value) ∙ sym c.in-Ok.ensures in
    value_follows (setup_of c.args.scan.now) c.args.run.now t c.requires.condition over.0 over.1.0 over.1.1
    c.in-Ok.value is c.pop.new.self.items file c.in-Some.ensures.items c.choose.new.groups line c.taken_line-line.ensures
    (c.in_ok-choose-in-Ok.ensures.ok ∙ ap (λ b. chosen line t.is_elif b (groups_of file.state.groups.items)) c.is_nonzero-live.ensures)
    c.push.new.self c.in_ok-push-in-Ok.ensures.items

pub jump-requires : goal.jump-requires
jump-requires c =
    let t = c.args.testing.now in
    let over = c.requires.over in
    let file = c.in-Some.file in
    let line = c.taken_line-line.result in
    let is = ap (λ z. value z t.so_far.items) (sym c.as_slice.ensures) ∙ ap (value c.as_slice.result.now) (sym c.deref.ensures.value) ∙ sym c.in-Ok.ensures in
    value_skips (setup_of c.args.scan.now) c.args.run.now t c.requires.condition over.0 over.1.0 over.1.1
    c.in-Ok.value is c.pop.new.self.items file c.in-Some.ensures.items c.choose.new.groups line c.taken_line-line.ensures
    (c.in_ok-choose-in-Ok.ensures.ok ∙ ap (λ b. chosen line t.is_elif b (groups_of file.state.groups.items)) c.is_nonzero-live.ensures)
    c.push.new.self c.in_ok-push-in-Ok.ensures.items (sym c.is_nonzero-live.ensures ∙ c.if-live.false)

pub returns-else-live-clause-next : goal.returns-else-live-clause-next
returns-else-live-clause-next c =
    let t = c.args.testing.now in
    let over = c.requires.over in
    let file = c.in-Some.file in
    let line = c.taken_line-line.result in
    let is = ap (λ z. value z t.so_far.items) (sym c.as_slice.ensures) ∙ ap (value c.as_slice.result.now) (sym c.deref.ensures.value) ∙ sym c.in-Ok.ensures in
    jump_after_value (setup_of c.args.scan.now) c.args.run.now t c.requires.condition over.0 over.1.0 over.1.1
    c.in-Ok.value is c.pop.new.self.items file c.in-Some.ensures.items c.choose.new.groups line c.taken_line-line.ensures
    (c.in_ok-choose-in-Ok.ensures.ok ∙ ap (λ b. chosen line t.is_elif b (groups_of file.state.groups.items)) c.is_nonzero-live.ensures)
    c.push.new.self c.in_ok-push-in-Ok.ensures.items c.jump.new.run c.jump.result c.jump.ensures.next

pub returns-in_ok-end-in-Err-clause-next : goal.returns-in_ok-end-in-Err-clause-next
returns-in_ok-end-in-Err-clause-next c =
    let setup = setup_of c.args.scan.now in
    let run = c.args.run.now in
    let t = c.args.testing.now in
    let over = c.requires.over in
    let cause = c.in-Err.cause in
    let line = c.taken_line-line.result in
    let is = ap (λ z. value z t.so_far.items) (sym c.as_slice.ensures) ∙ ap (value c.as_slice.result.now) (sym c.deref.ensures.value) ∙ sym c.in-Err.ensures in
    let end = c.in_ok-end-in-Err.ensures ∙ ap (λ k. stopped k (blamed setup run (BlameIs.Here line))) c.fault_of.ensures ∙ ap (λ n. stopped (fault_of cause) (blamed setup run (BlameIs.Here n))) c.taken_line-line.ensures in
    subst (λ e. Follows setup run 3 run (StageIs.Over e)) (sym end)
    (value_faulty setup run t c.requires.condition over.0 over.1.0 over.1.1 cause is)
