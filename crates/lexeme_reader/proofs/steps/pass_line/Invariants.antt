use Rattle.std.proofs.Common.{◌≡◌, length}
use Rattle.line_splice.specs.Cursor.{rest}
use Rattle.lexeme_reader.specs.Fronts.{Along}
use Rattle.lexeme_reader.proofs.steps.pass_line.Given as goal

abbrev pub invariant-line : goal.invariant-line
invariant-line l = record { same : l.at.text.now ≡ l.fn.at.text.now; along : Along (rest l.fn.at) (rest l.at) }

abbrev pub decreases-line : goal.decreases-line
decreases-line l = length (rest l.at)
