use Rattle.std.proofs.Common.{◌≡◌, ◌≤◌, take, drop, length}
use Rattle.line_splice.specs.Cursor.{rest}
use Rattle.lexeme_reader.specs.Fronts.{line}
use Rattle.pp_lexer.proofs.marks.next_bytes.Given as goal

abbrev pub invariant-window : goal.invariant-window
invariant-window l = record {
  along : rest l.next ≡ drop l.len (rest l.at);
  size : length l.bytes ≡ 4;
  within : l.len ≤ length (line (rest l.at));
  same : take l.len l.bytes ≡ take l.len (line (rest l.at));
  left : line (rest l.next) ≡ drop l.len (line (rest l.at));
}
