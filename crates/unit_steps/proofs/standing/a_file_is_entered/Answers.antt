use Rattle.unit_steps.proofs.Entering.{file_entered}
use Rattle.unit_steps.proofs.standing.a_file_is_entered.Goals as goal

pub returns : goal.returns
returns c = file_entered
