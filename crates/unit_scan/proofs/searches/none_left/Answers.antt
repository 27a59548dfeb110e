use Rattle.std.proofs.Common.{false, sym, subst}
use Rattle.unit_scan.specs.declared.stage.Lookup.TheVariants.{Named}
use Rattle.unit_scan.specs.declared.stage.Stage.TheVariants as StageIs
use Rattle.unit_scan.specs.Parts.{setup_of}
use Rattle.unit_scan.specs.Standing.{Seeking, Follows}
use Rattle.unit_scan.proofs.Seeking.{none_ends, none_tests, answered_follows}
use Rattle.unit_scan.proofs.searches.none_left.Goals as goal

pub fault-requires-clause-files : goal.fault-requires-clause-files
fault-requires-clause-files c = c.requires.seeking.sound.files

pub returns-in-Included-clause-next : goal.returns-in-Included-clause-next
returns-in-Included-clause-next c =
    let setup = setup_of c.args.scan.now in
    let run = c.args.run.now in
    subst (λ e. Follows setup run 4 run (StageIs.Over e)) (sym c.in_ok-end-in-Included.ensures)
    (none_ends setup run c.args.name c.args.purpose c.requires.seeking c.requires.none c.in-Included.is)

pub returns-clause-next : goal.returns-clause-next
returns-clause-next c =
    let setup = setup_of c.args.scan.now in
    let run = c.args.run.now in
    let h = subst (λ p. Seeking setup run (Named c.args.name p)) c.in-Tested.is c.requires.seeking in
    answered_follows setup run run 4 c.in-Tested.testing false (λ t after. none_tests setup run c.args.name c.in-Tested.testing t h c.requires.none after) c.with_answer.result c.with_answer.ensures
