use Rattle.unit_steps.proofs.Callers.{kth_looked}
use Rattle.unit_steps.proofs.whole_files.the_path_that_waits_is_looked_at_next.Goals as goal

pub returns : goal.returns
returns c = kth_looked
