use Rattle.unit_laws.proofs.ChainLemmas.{placed_are_candidates}
use Rattle.unit_laws.proofs.chain.placed_paths_are_the_candidates.Goals as goal

pub returns : goal.returns
returns c = placed_are_candidates
