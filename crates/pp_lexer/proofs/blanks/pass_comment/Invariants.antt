use Rattle.std.proofs.Common.{◌≡◌, length}
use Rattle.line_splice.specs.Cursor.{rest}
use Rattle.scan_model.specs.Tokens.{after_comment}
use Rattle.pp_lexer.proofs.blanks.pass_comment.Given as goal

abbrev pub invariant-comment : goal.invariant-comment
invariant-comment l = record { text : l.at.text.now ≡ l.fn.at.text.now; same : after_comment (rest l.at) ≡ after_comment (rest l.fn.at) }

abbrev pub decreases-comment : goal.decreases-comment
decreases-comment l = length (rest l.at)
