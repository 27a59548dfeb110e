use Rattle.cache_machine.proofs.Reached.{reached_sound, needed_comes}
use Rattle.cache_machine.proofs.moments.a_needed_path_is_to_come.Goals as goal

pub returns : goal.returns
returns c = λ jobs settings workers m reached. needed_comes jobs settings m (reached_sound jobs settings workers m reached)
