use Rattle.unit_laws.proofs.GrowingAnswers.{needs_last}
use Rattle.unit_laws.proofs.growth.a_needed_path_was_looked_at_last.Goals as goal

pub returns : goal.returns
returns g c = needs_last _
