use Rattle.unit_steps.proofs.Places.{chain_fits}
use Rattle.unit_steps.proofs.work.folders_have_numbers.Goals as goal

pub returns : goal.returns
returns c = chain_fits
