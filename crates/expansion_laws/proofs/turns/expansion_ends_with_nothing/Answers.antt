use Rattle.expansion_laws.proofs.TurnLemmas.{expands_none}
use Rattle.expansion_laws.proofs.turns.expansion_ends_with_nothing.Goals as goal

pub returns : goal.returns
returns c = expands_none
