use Rattle.unit_scan.specs.Parts.{setup_of}
use Rattle.unit_scan.proofs.Leaping.{line_jumped}
use Rattle.unit_scan.proofs.obeying.obey.Goals as goal

pub returns-in-Skips-clause-next : goal.returns-in-Skips-clause-next
returns-in-Skips-clause-next c = line_jumped (setup_of c.args.scan.now) c.args.run.now c.jump.new.run c.requires.sound c.jump.result c.jump.ensures.next
