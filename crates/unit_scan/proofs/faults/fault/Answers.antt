use Rattle.std.proofs.Common.{◌∙◌}
use Rattle.unit_scan.specs.Parts.{setup_of}
use Rattle.unit_scan.specs.Standing.{stopped}
use Rattle.unit_scan.proofs.faults.fault.Goals as goal

pub returns : goal.returns
returns c =
    let setup = setup_of c.args.scan.now in
    let path = c.in_ok-path.ensures ∙ c.blamed_path.ensures setup in
    let line = c.blamed_line-line.ensures setup c.args.run.now in
    λ i. stopped c.args.kind (record { path = path i; line = line i })
