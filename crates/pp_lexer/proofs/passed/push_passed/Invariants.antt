use Rattle.std.proofs.Common.{◌≡◌, ◌++◌, ◌≤◌, ◌-◌, drop, length}
use Rattle.line_splice.specs.Cursor.{rest}
use Rattle.scan_model.specs.Tokens.{bytes}
use Rattle.pp_lexer.specs.Reads.{passed}
use Rattle.pp_lexer.proofs.passed.push_passed.Given as goal

abbrev pub invariant-bytes : goal.invariant-bytes
invariant-bytes l = record {
  same : l.next.text.now ≡ l.from.text.now;
  along : rest l.next ≡ drop (length (rest l.from) - length (rest l.next)) (rest l.from);
  before : length (rest l.to) ≤ length (rest l.next);
  whole : l.text.items ≡ l.fn.text.items ++ bytes (passed (rest l.from) (rest l.next));
}

abbrev pub decreases-bytes : goal.decreases-bytes
decreases-bytes l = length (rest l.next)
