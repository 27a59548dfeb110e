use Rattle.std.proofs.Common.{ap, take, length, arith}
use Rattle.reducer.specs.FlatLines.{lines_of}
use Rattle.reducer.specs.Building.{kept_lines}
use Rattle.reducer.proofs.open_lines.OpenLines.new.Goals as goal

pub returns-clause-kept : goal.returns-clause-kept
unfolding kept_lines
returns-clause-kept c = ap (lines_of (take 0 c.new.result.items) (take 0 c.new-2.result.items)) c.new-3.ensures.items

pub returns-clause-room : goal.returns-clause-room
returns-clause-room c text left = record { bytes = omega (arith, ap length c.new.ensures.items); toks = omega (arith, ap length c.new-2.ensures.items) }
