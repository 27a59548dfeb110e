use Rattle.cache_machine.proofs.GrowingRows.{run_grows}
use Rattle.cache_machine.proofs.growth.rows_only_grow.Goals as goal

pub returns : goal.returns
returns c = λ jobs settings moves m. run_grows jobs settings moves m
