use Rattle.line_splice.specs.Cursor.{rest}
use Rattle.lexeme_reader.proofs.RunLemmas.{word_passed}
use Rattle.lexeme_reader.proofs.name.pass_word.Goals as goal

pub returns-clause-word : goal.returns-clause-word
returns-clause-word c = word_passed c.args.found (rest c.args.at.now) (rest c.pass_found.new.at) (rest c.pass_word_bytes.new.at) c.requires.here c.requires.continues c.pass_found.ensures.rest c.pass_word_bytes.ensures.run
