use Rattle.program_words.proofs.ParseLemmas.{parsed}
use Rattle.program_words.proofs.reading.parsed.Goals as goal

pub returns-in-Ok : goal.returns-in-Ok
returns-in-Ok c = parsed _ _ _ c.in_ok-command.ensures c.in-Ok.ensures.matches c.in-Ok.ensures.kinds
