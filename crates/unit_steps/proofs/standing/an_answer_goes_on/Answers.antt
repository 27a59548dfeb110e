use Rattle.unit_steps.proofs.Answers.{answer_acts}
use Rattle.unit_steps.proofs.standing.an_answer_goes_on.Goals as goal

pub returns : goal.returns
returns c = answer_acts
