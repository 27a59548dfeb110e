use Rattle.unit_laws.proofs.KnownAnswers.{asks_further}
use Rattle.unit_laws.proofs.known_answers.a_needed_path_leaves_one_to_ask.Goals as goal

pub returns : goal.returns
returns c = asks_further
