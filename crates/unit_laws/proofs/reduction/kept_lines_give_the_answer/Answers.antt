use Rattle.unit_laws.proofs.KeptAnswers.{kept_answers}
use Rattle.unit_laws.proofs.reduction.kept_lines_give_the_answer.Goals as goal

pub returns : goal.returns
returns c = kept_answers
