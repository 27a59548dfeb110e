use Rattle.cache_machine.proofs.Reached.{reached_sound}
use Rattle.cache_machine.proofs.moments.each_drawn_job_is_at_one_worker_or_ended.Goals as goal

pub returns : goal.returns
returns c = λ jobs settings workers m reached. (reached_sound jobs settings workers m reached).numbers
