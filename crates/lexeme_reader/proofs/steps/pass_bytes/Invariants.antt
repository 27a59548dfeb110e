use Rattle.std.proofs.Common.{◌≡◌, drop}
use Rattle.line_splice.specs.Cursor.{rest}
use Rattle.lexeme_reader.proofs.steps.pass_bytes.Given as goal

abbrev pub invariant-bytes : goal.invariant-bytes
invariant-bytes l = record { same : l.at.text.now ≡ l.fn.at.text.now; left : rest l.at ≡ drop l.counter (rest l.fn.at) }
