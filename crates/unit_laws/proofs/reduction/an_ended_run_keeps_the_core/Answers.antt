use Rattle.unit_laws.proofs.ReductionLemmas.{run_keeps}
use Rattle.unit_laws.proofs.reduction.an_ended_run_keeps_the_core.Goals as goal

pub returns : goal.returns
returns c = run_keeps
