use Rattle.unit_steps.proofs.Looks.{asks_fits}
use Rattle.unit_steps.proofs.whole_files.a_sought_path_is_needed.Goals as goal

pub returns : goal.returns
returns c = asks_fits
