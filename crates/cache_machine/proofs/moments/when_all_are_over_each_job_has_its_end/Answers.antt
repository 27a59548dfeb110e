use Rattle.cache_machine.proofs.Reached.{reached_sound, over_ends}
use Rattle.cache_machine.proofs.moments.when_all_are_over_each_job_has_its_end.Goals as goal

pub returns : goal.returns
returns c = λ jobs settings workers m reached. over_ends jobs settings m (reached_sound jobs settings workers m reached)
