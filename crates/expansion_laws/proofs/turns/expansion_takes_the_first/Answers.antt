use Rattle.expansion_laws.proofs.TurnLemmas.{expands_first}
use Rattle.expansion_laws.proofs.turns.expansion_takes_the_first.Goals as goal

pub returns : goal.returns
returns c = expands_first
