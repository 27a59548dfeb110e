use Rattle.std.proofs.Common.{◌≡◌, List, length}
use Rattle.line_splice.specs.Cursor.{rest}
use Rattle.scan_model.specs.Spliced.{Spot}
use Rattle.lexeme_reader.specs.Numbers.{PassesNumber}
use Rattle.lexeme_reader.proofs.number.pass_number_from.Given as goal

abbrev pub invariant-number : goal.invariant-number
invariant-number l = (l.at.text.now ≡ l.fn.at.text.now) × ((start : List Spot) → PassesNumber l.fn.before start (rest l.fn.at) → PassesNumber l.before start (rest l.at))

abbrev pub decreases-number : goal.decreases-number
decreases-number l = length (rest l.at)
