use Rattle.cache_machine.proofs.Reached.{reached_sound, known_where_looked}
use Rattle.cache_machine.proofs.moments.a_job_that_looked_at_all_has_its_answer.Goals as goal

pub returns : goal.returns
returns c = λ jobs settings workers m reached. known_where_looked jobs settings m (reached_sound jobs settings workers m reached)
