use Rattle.std.proofs.Common.{◌-◌, ◌<◌, ◌^◌, length, refl, sym, subst, ap, ◌∙◌, arith}
use Rattle.std.specs.Prelude.{None}
use Rattle.unit_steps.specs.Logs.{lines_at}
use Rattle.unit_scan.specs.declared.parts.OpenFile.{OpenFile}
use Rattle.unit_scan.specs.declared.stage.Stage.TheVariants as StageIs
use Rattle.unit_scan.specs.Parts.{answers_of, setup_of}
use Rattle.unit_scan.specs.Standing.{Follows}
use Rattle.unit_scan.proofs.Entered.{deep_follows, many_follows, enter_follows}
use Rattle.unit_scan.proofs.answers.enter.Goals as goal

pub returns-then-next_depth-gt200-clause-next : goal.returns-then-next_depth-gt200-clause-next
returns-then-next_depth-gt200-clause-next c =
    let setup = setup_of c.args.scan.now in
    let run = c.args.run.now in
    let depth = c.next_depth.ensures setup.command in
    subst (λ e. Follows setup run 5 run (StageIs.Over e)) (sym c.in_ok-fault.ensures)
    (deep_follows setup run c.args.blame c.args.chain_place c.requires (omega (arith, depth, c.len.ensures, c.if-next_depth-gt200.true)))

pub returns-then-run-ge65536-clause-next : goal.returns-then-run-ge65536-clause-next
returns-then-run-ge65536-clause-next c =
    let setup = setup_of c.args.scan.now in
    let run = c.args.run.now in
    let depth = c.next_depth.ensures setup.command in
    subst (λ e. Follows setup run 5 run (StageIs.Over e)) (sym c.in_ok-fault-2.ensures)
    (many_follows setup run c.args.blame c.args.chain_place c.requires (omega (arith, depth, c.len.ensures, c.if-next_depth-gt200.false)) (omega (arith, c.if-run-ge65536.true)))

pub returns-clause-next : goal.returns-clause-next
returns-clause-next c =
    let setup = setup_of c.args.scan.now in
    let run = c.args.run.now in
    let depth = c.next_depth.ensures setup.command in
    let file : OpenFile = record { answer = c.len-last.result - 1; next = 0; state = record { site = None; groups = c.new.result; chain_place = c.args.chain_place } } in
    let few = subst (λ z. length (lines_at (answers_of z) (c.len-last.result - 1)) < 2 ^ 32) c.deref.ensures.value c.has_few_lines.ensures in
    enter_follows setup run c.args.blame c.args.chain_place c.requires file
    (record { answer = ap (λ n. n - 1) (c.len-last.ensures ∙ sym c.deref.ensures.len ∙ ap length c.deref.ensures.value); next = refl; site = refl; groups = c.new.ensures.items; chain_place = refl })
    c.push.new.self c.in_ok-push.ensures.items few (omega (arith, depth, c.len.ensures, c.if-next_depth-gt200.false)) (omega (arith, c.if-run-ge65536.false))
