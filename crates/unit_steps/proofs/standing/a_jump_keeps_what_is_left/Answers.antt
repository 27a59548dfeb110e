use Rattle.unit_steps.proofs.Jumps.{jumps_stand}
use Rattle.unit_steps.proofs.standing.a_jump_keeps_what_is_left.Goals as goal

pub returns : goal.returns
returns c = jumps_stand
