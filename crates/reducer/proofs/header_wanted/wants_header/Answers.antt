use Rattle.std.proofs.Common.{sym, ◌∙◌}
use Rattle.reducer.specs.Building.{open_toks}
use Rattle.reducer.proofs.PlaceLemmas.{wants_test, wants_other}
use Rattle.reducer.proofs.header_wanted.wants_header.Goals as goal

pub returns-then-ends_in_test : goal.returns-then-ends_in_test
returns-then-ends_in_test c = wants_test (open_toks c.args.lines.now) _ _ (sym c.ends_in_test.ensures ∙ c.if-ends_in_test.true) c.are_before_header.ensures c.begins_condition.ensures

pub returns-else-ends_in_test : goal.returns-else-ends_in_test
returns-else-ends_in_test c =
    wants_other (open_toks c.args.lines.now) _ (sym c.ends_in_test.ensures ∙ c.if-ends_in_test.false) c.are_before_header-else-ends_in_test.ensures
