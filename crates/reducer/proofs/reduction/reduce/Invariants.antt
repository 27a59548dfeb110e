use Rattle.std.proofs.Common.{◌≡◌, ◌++◌, [], length}
use Rattle.line_splice.specs.Cursor.{rest}
use Rattle.scan_model.specs.Lines.{kept}
use Rattle.reducer.specs.Building.{kept_lines, IsSound, HasRoom}
use Rattle.reducer.specs.Directives.{kept_from}
use Rattle.reducer.proofs.reduction.reduce.Given as goal

abbrev pub invariant-lines : goal.invariant-lines
invariant-lines l = record {
  same : l.at.text.now ≡ l.text;
  sound : IsSound l.lines;
  room : HasRoom l.lines l.text (rest l.at);
  whole : kept_lines l.lines ++ kept_from l.text [] (rest l.at) ≡ kept l.text;
}

abbrev pub decreases-lines : goal.decreases-lines
decreases-lines l = length (rest l.at)
