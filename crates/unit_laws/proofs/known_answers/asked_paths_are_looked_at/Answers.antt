use Rattle.unit_laws.proofs.KnownAnswers.{asks_as_known}
use Rattle.unit_laws.proofs.known_answers.asked_paths_are_looked_at.Goals as goal

pub returns : goal.returns
returns c = asks_as_known
