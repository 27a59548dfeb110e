use Rattle.unit_steps.proofs.Looks.{over_fits}
use Rattle.unit_steps.proofs.whole_files.an_end_is_that_of_whole_files.Goals as goal

pub returns : goal.returns
returns c = over_fits
