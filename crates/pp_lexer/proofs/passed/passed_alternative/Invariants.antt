use Rattle.std.proofs.Common.{◌≡◌, ◌≤◌, ◌-◌, take, drop, length}
use Rattle.line_splice.specs.Cursor.{rest}
use Rattle.scan_model.specs.Tokens.{bytes}
use Rattle.pp_lexer.specs.Reads.{passed}
use Rattle.pp_lexer.proofs.passed.passed_alternative.Given as goal

abbrev pub invariant-word : goal.invariant-word
invariant-word l = record {
  same : l.next.text.now ≡ l.from.text.now;
  along : rest l.next ≡ drop (length (rest l.from) - length (rest l.next)) (rest l.from);
  count : l.len ≡ length (rest l.from) - length (rest l.next);
  size : length l.buffer ≡ 7;
  before : length (rest l.to) ≤ length (rest l.next);
  whole : take l.len l.buffer ≡ bytes (passed (rest l.from) (rest l.next));
}
