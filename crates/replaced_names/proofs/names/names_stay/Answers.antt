use Rattle.replaced_names.proofs.Expansions.{names_stay}
use Rattle.replaced_names.proofs.names.names_stay.Goals as goal

pub returns : goal.returns
returns c = names_stay
