use Rattle.unit_steps.proofs.Steps.{stop_ends}
use Rattle.unit_steps.proofs.standing.a_stop_is_the_end.Goals as goal

pub returns : goal.returns
returns c = stop_ends
