use Rattle.unit_laws.proofs.KeptAnswers.{reduced_answers}
use Rattle.unit_laws.proofs.reduction.reduced_files_give_the_answer.Goals as goal

pub returns : goal.returns
returns c = reduced_answers
