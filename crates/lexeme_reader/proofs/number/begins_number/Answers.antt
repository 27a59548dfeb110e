use Rattle.std.proofs.Common.{sym}
use Rattle.line_splice.specs.Cursor.{rest}
use Rattle.lexeme_reader.proofs.NumberLemmas.{some_number}
use Rattle.lexeme_reader.proofs.number.begins_number.Goals as goal

pub returns-in-Some : goal.returns-in-Some
returns-in-Some c = sym (some_number _ (rest c.args.at.now) (rest c.pass_number_start.new.at) c.in-Some.ensures.start)
