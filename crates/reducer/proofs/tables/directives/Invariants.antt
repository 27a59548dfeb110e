use Rattle.std.proofs.Common.{◌≡◌, take}
use Rattle.reducer.specs.FlatLines.{directives}
use Rattle.reducer.proofs.tables.directives.Given as goal

abbrev pub invariant-loop-line : goal.invariant-loop-line
invariant-loop-line l = l.made.items ≡ directives l.dialect (take l.line-index l.lines)
