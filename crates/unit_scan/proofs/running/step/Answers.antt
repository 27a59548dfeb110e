use Rattle.std.proofs.Common.{subst}
use Rattle.unit_scan.specs.Parts.{setup_of}
use Rattle.unit_scan.specs.Standing.{Holds}
use Rattle.unit_scan.proofs.running.step.Goals as goal

pub go_on-requires : goal.go_on-requires
go_on-requires c = subst (λ z. Holds (setup_of c.args.scan.now) c.args.run.now z) c.in-Runs.is c.requires.holds

pub seek-requires : goal.seek-requires
seek-requires c = subst (λ z. Holds (setup_of c.args.scan.now) c.args.run.now z) c.in-Seeks.is c.requires.holds

pub go_on_testing-requires : goal.go_on_testing-requires
go_on_testing-requires c = subst (λ z. Holds (setup_of c.args.scan.now) c.args.run.now z) c.in-Tests.is c.requires.holds

pub on_answer-requires : goal.on_answer-requires
on_answer-requires c = subst (λ z. Holds (setup_of c.args.scan.now) c.args.run.now z) c.in-Answered.is c.requires.holds
