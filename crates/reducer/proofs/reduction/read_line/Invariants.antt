use Rattle.std.proofs.Common.{◌≡◌, ◌≤◌, [], length}
use Rattle.line_splice.specs.Cursor.{rest}
use Rattle.pp_lexer.specs.Brackets.{IsBare}
use Rattle.reducer.specs.Building.{kept_lines, open_toks, IsSound, HasRoom}
use Rattle.reducer.specs.Directives.{kept_from}
use Rattle.reducer.proofs.reduction.read_line.Given as goal

abbrev pub invariant-toks : goal.invariant-toks
invariant-toks l = record {
  same : l.at.text.now ≡ l.text;
  sound : IsSound l.lines;
  room : HasRoom l.lines l.text (rest l.at);
  bare : IsBare l.bare_to l.text (rest l.at);
  lines : kept_lines l.lines ≡ kept_lines l.initial.lines;
  kept : kept_from l.text [] (rest l.initial.at) ≡ kept_from l.text (open_toks l.lines) (rest l.at);
  less : length (rest l.at) ≤ length (rest l.initial.at);
}

abbrev pub decreases-toks : goal.decreases-toks
decreases-toks l = length (rest l.at)
