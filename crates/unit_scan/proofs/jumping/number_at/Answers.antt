use Rattle.unit_scan.proofs.Leaping.{number_is}
use Rattle.unit_scan.proofs.jumping.number_at.Goals as goal

pub returns : goal.returns
returns c = number_is c.args.lines.now c.args.place c.line.result c.line.ensures.head
