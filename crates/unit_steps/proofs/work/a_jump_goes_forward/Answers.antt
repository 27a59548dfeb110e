use Rattle.unit_steps.proofs.SkipRanges.{skip_behind}
use Rattle.unit_steps.proofs.work.a_jump_goes_forward.Goals as goal

pub returns : goal.returns
returns c = λ setup ls k. skip_behind ls k setup.command.dialect
