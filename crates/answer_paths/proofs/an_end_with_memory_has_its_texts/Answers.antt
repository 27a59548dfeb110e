use Rattle.answer_paths.proofs.LookedRuns.{end_has_texts}
use Rattle.answer_paths.proofs.an_end_with_memory_has_its_texts.Goals as goal

pub returns : goal.returns
returns g c = end_has_texts _
