use Rattle.unit_laws.proofs.KnownAnswers.{ends_for_all}
use Rattle.unit_laws.proofs.known_answers.a_known_end_is_the_answer.Goals as goal

pub returns : goal.returns
returns c = ends_for_all
