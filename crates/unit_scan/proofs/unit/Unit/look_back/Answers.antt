use Rattle.std.proofs.Common.{subst}
use Rattle.unit_steps.specs.UnitView.{Fits}
use Rattle.unit_scan.specs.UnitInside.{setup_of}
use Rattle.unit_scan.proofs.Fitting.{stage_fits}
use Rattle.unit_scan.proofs.unit.Unit.look_back.Goals as goal

pub returns : goal.returns
returns c = subst Fits c.self.view_is (stage_fits (setup_of c.self.inside) c.self.inside.run c.self.inside.stage c.self.invariant)
