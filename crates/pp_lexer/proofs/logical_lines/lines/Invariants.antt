use Rattle.std.proofs.Common.{◌≡◌, ◌++◌, length}
use Rattle.line_splice.specs.Cursor.{rest}
use Rattle.scan_model.specs.Lines.{lines, lines_from}
use Rattle.pp_lexer.specs.Brackets.{IsBare}
use Rattle.pp_lexer.proofs.logical_lines.lines.Given as goal

abbrev pub invariant-lines : goal.invariant-lines
invariant-lines l = record {
  same : l.at.text.now ≡ l.text;
  bare : IsBare l.bare_to l.text (rest l.at);
  whole : l.out ++ lines_from l.text l.toks (rest l.at) ≡ lines l.text;
}

abbrev pub decreases-lines : goal.decreases-lines
decreases-lines l = length (rest l.at)
