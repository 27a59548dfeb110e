use Rattle.std.proofs.Common.{true, subst}
use Rattle.unit_scan.specs.declared.stage.Lookup.TheVariants.{Named}
use Rattle.unit_scan.specs.Parts.{setup_of}
use Rattle.unit_scan.specs.Standing.{IsPresent}
use Rattle.unit_scan.proofs.Answering.{test_present}
use Rattle.unit_scan.proofs.Seeking.{answered_follows}
use Rattle.unit_scan.proofs.answers.on_named.Goals as goal

pub returns-clause-next : goal.returns-clause-next
returns-clause-next c =
    let setup = setup_of c.args.scan.now in
    let run = c.args.run.now in
    let t = c.in-Tested.testing in
    let h = subst (λ p. IsPresent setup run (Named c.args.name p)) c.in-Tested.is c.requires in
    answered_follows setup run run 5 t true (λ after is. test_present setup run c.args.name t after h.0 h.1.0 h.1.1.0 h.1.1.1 is) c.with_answer.result c.with_answer.ensures
