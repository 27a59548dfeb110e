use Rattle.scan_model.specs.Macros.{pop}
use Rattle.macro_table.specs.Table.{macros_of}
use Rattle.plain_lines.proofs.Utf8Lemmas.{utf8-pop, utf8-changes}
use Rattle.plain_lines.proofs.pragmas.pop_line.Goals as goal

pub invariant_of-unit : goal.invariant_of-unit
invariant_of-unit c = let before = macros_of c.args.unit.now.macros in
    record { utf8 = utf8-changes c.args.unit.now.macros c.pop.new.self (pop before c.in-Some.name.now) c.args.unit.now.utf8 (utf8-pop before c.in-Some.name.now) c.pop.ensures }
