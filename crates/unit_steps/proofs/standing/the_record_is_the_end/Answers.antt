use Rattle.unit_steps.proofs.Endings.{unit_ends}
use Rattle.unit_steps.proofs.standing.the_record_is_the_end.Goals as goal

pub returns : goal.returns
returns c = unit_ends
