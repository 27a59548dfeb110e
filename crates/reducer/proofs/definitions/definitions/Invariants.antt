use Rattle.std.proofs.Common.{take}
use Rattle.reducer.specs.Definitions.{AreDefinitions}
use Rattle.reducer.proofs.definitions.definitions.Given as goal

abbrev pub invariant-loop-line : goal.invariant-loop-line
invariant-loop-line l = AreDefinitions l.spelled l.toks (take l.line-index l.lines) l.made.items
