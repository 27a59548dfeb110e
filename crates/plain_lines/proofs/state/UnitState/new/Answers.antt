use Rattle.plain_lines.proofs.Utf8Lemmas.{utf8-begins}
use Rattle.plain_lines.proofs.state.UnitState.new.Goals as goal

pub invariant_of-result : goal.invariant_of-result
invariant_of-result c = record { utf8 = utf8-begins c.in_ok-macros.macros c.args.dialect c.in_ok-macros.ensures }
