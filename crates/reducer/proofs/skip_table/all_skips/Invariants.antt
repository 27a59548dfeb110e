use Rattle.std.proofs.Common.{◌≤◌, length}
use Rattle.reducer.specs.SkipTable.{HasSkips}
use Rattle.reducer.proofs.skip_table.all_skips.Given as goal

abbrev pub invariant-lines : goal.invariant-lines
invariant-lines l = record { within : l.from ≤ length l.directives; entries : HasSkips l.directives l.from l.skips.items }

abbrev pub decreases-lines : goal.decreases-lines
decreases-lines l = l.from
