use Rattle.std.proofs.Common.{arith}
use Rattle.scanner.proofs.LineLemmas.{LinesSoFar-start, LinesSoFar-more, LinesSoFar-end}
use Rattle.scanner.proofs.printing.fault_lines.Goals as goal

pub loop-place-init : goal.loop-place-init
loop-place-init c = LinesSoFar-start c.args.ends.now c.new-lines.result.items c.new-lines.ensures.items

pub loop-place-preserved : goal.loop-place-preserved
loop-place-preserved c =
    LinesSoFar-more c.args.ends.now c.loop-place.place c.index-ends-place.result c.loop-place.lines.items c.add_line.new.lines.items (omega arith) c.index-ends-place.is c.in_ok-add_line.ensures c.loop-place.invariant

pub returns : goal.returns
returns c = LinesSoFar-end c.args.ends.now c.loop-place.place c.loop-place.lines.items (omega arith) c.loop-place.invariant
