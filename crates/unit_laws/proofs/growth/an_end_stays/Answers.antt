use Rattle.unit_laws.proofs.GrowingAnswers.{answer_stays}
use Rattle.unit_laws.proofs.growth.an_end_stays.Goals as goal

pub returns : goal.returns
returns g c = answer_stays _
