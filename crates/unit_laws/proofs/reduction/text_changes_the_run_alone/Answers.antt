use Rattle.unit_laws.proofs.ReductionLemmas.{text_keeps}
use Rattle.unit_laws.proofs.reduction.text_changes_the_run_alone.Goals as goal

pub returns : goal.returns
returns g c = text_keeps _
