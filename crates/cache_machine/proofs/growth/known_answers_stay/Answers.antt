use Rattle.cache_machine.proofs.JobLemmas.{end_stays}
use Rattle.cache_machine.proofs.growth.known_answers_stay.Goals as goal

pub returns : goal.returns
returns c = λ jobs settings rows more n end grow known. end_stays jobs settings rows more n end grow known
