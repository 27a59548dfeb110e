use Rattle.cache_machine.proofs.JobLemmas.{path_stays}
use Rattle.cache_machine.proofs.growth.looked_paths_stay.Goals as goal

pub returns : goal.returns
returns c = path_stays
