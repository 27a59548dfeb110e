use Rattle.unit_laws.proofs.ChainLemmas.{next_goes_on}
use Rattle.unit_laws.proofs.chain.a_next_search_goes_on_behind.Goals as goal

pub returns : goal.returns
returns c = next_goes_on
