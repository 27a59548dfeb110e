use Rattle.unit_laws.proofs.KnownAnswers.{asks_next}
use Rattle.unit_laws.proofs.known_answers.a_needed_path_comes_next.Goals as goal

pub returns : goal.returns
returns c = asks_next
