-- What callers see of a unit, and what each unit keeps.
use Rattle.scan_model.specs.State.{Setup}
use Rattle.unit_steps.specs.UnitView.{UnitView}
use Rattle.unit_scan.specs.declared.unit.Unit.TheInside.{Inside}
use Rattle.unit_scan.specs.Parts.{told, work_of}
use Rattle.unit_scan.specs.Standing.{Standing, phase_of}

abbrev pub setup_of : Inside → Setup
setup_of u = record { settings = u.settings.now; command = u.command.now }

abbrev pub view_of : Inside → UnitView
view_of u = record {
  command = u.command.now;
  settings = u.settings.now;
  answers = told u.run;
  phase = phase_of (setup_of u) u.run u.stage;
  work = work_of (setup_of u) u.run;
}

abbrev pub IsStanding : Inside → Type 0
IsStanding u = Standing (setup_of u) u.run u.stage
