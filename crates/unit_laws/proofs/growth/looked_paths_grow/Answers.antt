use Rattle.unit_laws.proofs.GrowingAnswers.{looked_grows}
use Rattle.unit_laws.proofs.growth.looked_paths_grow.Goals as goal

pub returns : goal.returns
returns g c = looked_grows _
