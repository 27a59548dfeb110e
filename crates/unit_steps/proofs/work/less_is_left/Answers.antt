use Rattle.unit_steps.proofs.Ranks.{files_fall, lines_fall, tests_fall, candidates_fall}
use Rattle.unit_steps.proofs.work.less_is_left.Goals as goal

pub returns : goal.returns
returns c = λ w v m. (files_fall w v m, lines_fall w v m, tests_fall w v m, candidates_fall w v)
