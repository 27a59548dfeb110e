use Rattle.scan_model.specs.Macros.{push}
use Rattle.macro_table.specs.Table.{macros_of}
use Rattle.plain_lines.proofs.Utf8Lemmas.{utf8-push, utf8-changed}
use Rattle.plain_lines.proofs.pragmas.push_line.Goals as goal

pub invariant_of-unit : goal.invariant_of-unit
invariant_of-unit c = let before = macros_of c.args.unit.now.macros in
    record { utf8 = utf8-changed c.push.result c.args.unit.now.macros c.push.new.self (push before c.in-Some.name.now) c.args.unit.now.utf8 (utf8-push before c.in-Some.name.now) c.push.ensures.ok c.push.ensures.err }
