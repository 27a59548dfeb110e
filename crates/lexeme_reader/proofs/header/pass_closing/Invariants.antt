use Rattle.std.proofs.Common.{◌≡◌, length}
use Rattle.line_splice.specs.Cursor.{rest}
use Rattle.lexeme_reader.proofs.HeaderLemmas.{Before}
use Rattle.lexeme_reader.proofs.header.pass_closing.Given as goal

abbrev pub invariant-closing : goal.invariant-closing
invariant-closing l = record { same : l.at.text.now ≡ l.fn.at.text.now; before : Before l.close (rest l.fn.at) (rest l.at) }

abbrev pub decreases-closing : goal.decreases-closing
decreases-closing l = length (rest l.at)
