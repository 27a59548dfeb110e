use Rattle.lexeme_reader.proofs.RawLemmas.{closing_found, closing_missed}
use Rattle.lexeme_reader.proofs.raw_text.close.Goals as goal

pub returns-in-Some : goal.returns-in-Some
returns-in-Some c = closing_found c.args.delimiter.now c.args.inside.now _ c.in-Some.at c.closing.ensures c.in-Some.ensures.0 c.in-Some.ensures.1

pub returns-in-None : goal.returns-in-None
returns-in-None c = closing_missed c.args.delimiter.now c.args.inside.now _ c.closing.ensures c.in-None.ensures
