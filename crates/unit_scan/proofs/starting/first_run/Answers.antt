use Rattle.std.proofs.Common.{refl, arith}
use Rattle.unit_scan.specs.Parts.{setup_of}
use Rattle.unit_scan.proofs.Started.{alone, with_predefines, none_there, one_there}
use Rattle.unit_scan.proofs.starting.first_run.Goals as goal

pub returns-then-is_none : goal.returns-then-is_none
returns-then-is_none c =
    alone (setup_of c.args.scan.now) c.requires.command c.requires.settings c.in_ok-state.state c.in_ok-state.ensures 0 c.first_parts.result c.first_parts.ensures (omega arith)
    (none_there c.args.scan.now.settings.now.predefines c.if-is_none.ensures)

pub returns-else-is_none : goal.returns-else-is_none
returns-else-is_none c =
    let one = one_there c.args.scan.now.settings.now.predefines c.if-is_none.ensures in
    with_predefines (setup_of c.args.scan.now) c.requires.command c.requires.settings c.in_ok-state.state c.in_ok-state.ensures 1 c.first_parts-else-is_none.result c.first_parts-else-is_none.ensures (omega arith) one.0 one.1 refl
