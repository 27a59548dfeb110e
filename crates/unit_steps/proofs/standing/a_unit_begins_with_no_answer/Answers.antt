use Rattle.unit_steps.proofs.Starting.{starts_alone, starts_with_predefines}
use Rattle.unit_steps.proofs.standing.a_unit_begins_with_no_answer.Goals as goal

pub returns : goal.returns
returns c = λ setup. (starts_alone setup, starts_with_predefines setup)
