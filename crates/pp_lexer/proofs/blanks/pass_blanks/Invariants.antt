use Rattle.std.proofs.Common.{◌≡◌, ◌≤◌, length, nat_lt}
use Rattle.line_splice.specs.Cursor.{rest}
use Rattle.scan_model.specs.Tokens.{after_blanks}
use Rattle.pp_lexer.proofs.blanks.pass_blanks.Given as goal

abbrev pub invariant-blanks : goal.invariant-blanks
invariant-blanks l = record {
  text : l.at.text.now ≡ l.fn.at.text.now;
  shorter : length (rest l.at) ≤ length (rest l.fn.at);
  passed : l.passed ≡ nat_lt (length (rest l.at)) (length (rest l.fn.at));
  same : after_blanks (rest l.at) ≡ after_blanks (rest l.fn.at);
}

abbrev pub decreases-blanks : goal.decreases-blanks
decreases-blanks l = length (rest l.at)
