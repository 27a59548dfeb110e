use Rattle.std.proofs.Common.{◌≡◌, length}
use Rattle.line_splice.specs.Cursor.{rest}
use Rattle.lexeme_reader.proofs.HeaderLemmas.{Before}
use Rattle.pp_lexer.proofs.open_brackets.bare_end.Given as goal

abbrev pub invariant-bare : goal.invariant-bare
invariant-bare l = record { same : l.next.text.now ≡ l.at.text.now; before : Before 62 (rest l.at) (rest l.next) }

abbrev pub decreases-bare : goal.decreases-bare
decreases-bare l = length (rest l.next)
