use Rattle.std.proofs.Common.{sym, subst, ap, ◌∙◌}
use Rattle.unit_scan.specs.declared.stage.Stage.TheVariants as StageIs
use Rattle.unit_scan.specs.Parts.{setup_of}
use Rattle.unit_scan.specs.Standing.{Follows, CanBlame, blamed, stopped}
use Rattle.unit_scan.proofs.Answering.{faulty_follows}
use Rattle.unit_scan.proofs.answers.faulty.Goals as goal

pub fault-requires-clause-files : goal.fault-requires-clause-files
fault-requires-clause-files c = c.requires.sound.files

pub fault-requires-clause-some : goal.fault-requires-clause-some
fault-requires-clause-some c = subst (λ b. CanBlame c.args.run.now b) (sym c.blame_of.ensures) c.requires.some

pub returns-clause-next : goal.returns-clause-next
returns-clause-next c =
    let setup = setup_of c.args.scan.now in
    let run = c.args.run.now in
    subst (λ e. Follows setup run 5 run (StageIs.Over e)) (sym (c.in_ok-end.ensures ∙ ap (λ b. stopped c.args.kind (blamed setup run b)) c.blame_of.ensures))
    (faulty_follows setup run c.args.lookup.now c.args.kind c.requires)
