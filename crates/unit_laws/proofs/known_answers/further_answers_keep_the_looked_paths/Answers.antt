use Rattle.unit_laws.proofs.KnownAnswers.{looked_stays}
use Rattle.unit_laws.proofs.known_answers.further_answers_keep_the_looked_paths.Goals as goal

pub returns : goal.returns
returns c = looked_stays
