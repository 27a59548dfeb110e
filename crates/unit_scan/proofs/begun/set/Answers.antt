use Rattle.std.proofs.Common.{sym}
use Rattle.unit_scan.specs.Parts.{setup_of}
use Rattle.unit_scan.proofs.Setting.{set_plain, set_goes, set_stops}
use Rattle.unit_scan.proofs.begun.set.Goals as goal

pub plain_fault-requires : goal.plain_fault-requires
plain_fault-requires c =
    set_plain (setup_of c.args.scan.now) c.args.run.now c.requires.running c.requires.none c.args.k c.requires.left c.act_setting.new.state c.in_ok-action.action c.in_ok-action.ensures

pub returns-in-None-clause-next : goal.returns-in-None-clause-next
returns-in-None-clause-next c =
    set_goes (setup_of c.args.scan.now) c.args.run.now c.requires.running c.requires.none c.args.k c.requires.left c.act_setting.new.state c.in_ok-action.action c.in_ok-action.ensures (sym c.in-None.ensures)

pub returns-clause-next : goal.returns-clause-next
returns-clause-next c =
    set_stops (setup_of c.args.scan.now) c.args.run.now c.requires.running c.requires.none c.args.k c.requires.left c.act_setting.new.state c.in_ok-action.action c.in_ok-action.ensures
    c.in-Some.kind (sym c.in-Some.ensures) c.in_ok-end-in-Some.end c.in_ok-end-in-Some.ensures
