use Rattle.std.proofs.Common.{◌≡◌, map, take}
use Rattle.reducer.specs.FlatLines.{tok_of}
use Rattle.reducer.proofs.definitions.tokens.Given as goal

abbrev pub invariant-loop-record : goal.invariant-loop-record
invariant-loop-record l = l.made.items ≡ map (tok_of l.spelled l.line) (take l.record-index l.records)
