use Rattle.answer_paths.proofs.LookedRuns.{end_has_paths}
use Rattle.answer_paths.proofs.an_end_has_its_paths.Goals as goal

pub returns : goal.returns
returns g c = end_has_paths _
