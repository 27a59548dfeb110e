use Rattle.std.proofs.Common.{ap, ◌∙◌}
use Rattle.unit_scan.specs.Parts.{answers_of}
use Rattle.unit_scan.proofs.Giving.{answers-append}
use Rattle.unit_scan.proofs.unit.take_answer.Goals as goal

pub returns-clause-log : goal.returns-clause-log
returns-clause-log c = ap answers_of c.push_reserved.ensures.items ∙ answers-append c.args.run.now.log.items (record { path = c.args.path; answer = c.args.answer })
