use Rattle.scan_core.proofs.RunningLemmas.{first_run, run_ready, run_memory}
use Rattle.scan_core.proofs.running.begin.Goals as goal

pub run_on-requires : goal.run_on-requires
run_on-requires g c = record {
  ready = run_ready c.in_ok-unit.unit.phase c.in_ok-unit.ensures.phase;
  memory = run_memory c.in_ok-unit.unit.phase c.in_ok-unit.ensures.phase;
}

pub returns : goal.returns
returns g c =
    first_run c.args.settings.now c.args.number c.args.command.now c.in_ok-unit.unit c.run_on.result
    c.in_ok-unit.ensures.command c.in_ok-unit.ensures.settings c.in_ok-unit.ensures.answers c.in_ok-unit.ensures.work c.run_on.ensures
