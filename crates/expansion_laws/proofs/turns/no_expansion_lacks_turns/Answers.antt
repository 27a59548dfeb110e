use Rattle.expansion_laws.proofs.TurnLemmas.{expands_in_full}
use Rattle.expansion_laws.proofs.turns.no_expansion_lacks_turns.Goals as goal

pub returns : goal.returns
returns c = expands_in_full
