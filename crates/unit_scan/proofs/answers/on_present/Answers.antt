use Rattle.std.proofs.Common.{subst}
use Rattle.unit_scan.specs.Parts.{setup_of}
use Rattle.unit_scan.specs.Standing.{IsPresent}
use Rattle.unit_scan.proofs.Answering.{first_present}
use Rattle.unit_scan.proofs.answers.on_present.Goals as goal

pub enter-requires : goal.enter-requires
enter-requires c =
    let h = subst (λ z. IsPresent (setup_of c.args.scan.now) c.args.run.now z) c.in-First.is c.requires in
    first_present (setup_of c.args.scan.now) c.args.run.now c.in-First.field-0 h.0 h.1.0 h.1.1.0 h.1.1.1
