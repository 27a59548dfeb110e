use Rattle.std.proofs.Common.{◌≡◌, length}
use Rattle.line_splice.specs.Cursor.{rest}
use Rattle.scan_model.specs.Tokens.{from_newline}
use Rattle.pp_lexer.proofs.blanks.pass_line.Given as goal

abbrev pub invariant-loop-byte : goal.invariant-loop-byte
invariant-loop-byte l = record { text : l.at.text.now ≡ l.fn.at.text.now; same : from_newline (rest l.at) ≡ from_newline (rest l.fn.at) }

abbrev pub decreases-loop-byte : goal.decreases-loop-byte
decreases-loop-byte l = length (rest l.at)
