use Rattle.expansion_laws.proofs.TurnLemmas.{more_turns}
use Rattle.expansion_laws.proofs.turns.further_turns_change_nothing.Goals as goal

pub returns : goal.returns
returns c = more_turns
