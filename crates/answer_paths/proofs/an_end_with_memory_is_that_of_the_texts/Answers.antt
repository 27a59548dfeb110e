use Rattle.answer_paths.proofs.TextAnswers.{end_is_of_texts}
use Rattle.answer_paths.proofs.an_end_with_memory_is_that_of_the_texts.Goals as goal

pub returns : goal.returns
returns g c = end_is_of_texts _
