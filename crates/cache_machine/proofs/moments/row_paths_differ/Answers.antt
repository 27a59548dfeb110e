use Rattle.cache_machine.proofs.Reached.{reached_sound}
use Rattle.cache_machine.proofs.moments.row_paths_differ.Goals as goal

pub returns : goal.returns
returns c = λ jobs settings workers m reached. (reached_sound jobs settings workers m reached).differ
