use Rattle.unit_laws.proofs.ReductionLemmas.{reduction_of_lines}
use Rattle.unit_laws.proofs.reduction.lines_with_the_same_directives_act_alike.Goals as goal

pub returns : goal.returns
returns g c = reduction_of_lines _ _
