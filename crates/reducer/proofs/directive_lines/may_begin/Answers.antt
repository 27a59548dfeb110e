use Rattle.std.proofs.Common.{sym, ◌∙◌}
use Rattle.reducer.specs.Building.{open_toks}
use Rattle.reducer.proofs.PlaceLemmas.{two_begin}
use Rattle.reducer.proofs.directive_lines.may_begin.Goals as goal

pub returns-in-2 : goal.returns-in-2
returns-in-2 c = two_begin (open_toks c.args.lines.now) _ _ _ (sym c.count.ensures ∙ c.in-2.is) c.is_word-in-2.ensures c.is_word-in-2-2.ensures c.is_word-in-2-3.ensures
