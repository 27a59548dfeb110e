use Rattle.std.proofs.Common.{◌≡◌, ◌++◌, drop, take}
use Rattle.line_splice.specs.Cursor.{rest}
use Rattle.scan_model.specs.Tokens.{bytes}
use Rattle.pp_lexer.proofs.passed.push_first.Given as goal

abbrev pub invariant-bytes : goal.invariant-bytes
invariant-bytes l = record {
  left : rest l.next ≡ drop l.counter (rest l.from);
  whole : l.text.items ≡ l.fn.text.items ++ bytes (take l.counter (rest l.from));
}
