use Rattle.unit_steps.proofs.Endings.{file_ends_well, file_ends_open}
use Rattle.unit_steps.proofs.standing.a_file_ends.Goals as goal

pub returns : goal.returns
returns c = λ setup m answers f fs frames rest looking stands. (file_ends_well setup m answers f fs frames rest looking stands, file_ends_open setup m answers f fs frames rest looking stands)
