use Rattle.calm_runs.proofs.LaneLemmas.{selected_equal}
use Rattle.calm_runs.proofs.calm.equal_to.Goals as goal

pub returns : goal.returns
returns c = selected_equal c.args.bytes 16 c.args.byte c.fits-bytes.0
