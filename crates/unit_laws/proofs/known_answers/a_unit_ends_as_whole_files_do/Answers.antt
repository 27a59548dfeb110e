use Rattle.unit_laws.proofs.KnownAnswers.{ends_as_known}
use Rattle.unit_laws.proofs.known_answers.a_unit_ends_as_whole_files_do.Goals as goal

pub returns : goal.returns
returns c = ends_as_known
