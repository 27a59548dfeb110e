use Rattle.expansion_laws.proofs.TurnLemmas.{expands_list}
use Rattle.expansion_laws.proofs.turns.expansion_is_that_of_the_list.Goals as goal

pub returns : goal.returns
returns c = expands_list
