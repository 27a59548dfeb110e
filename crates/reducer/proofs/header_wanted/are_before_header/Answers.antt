use Rattle.std.proofs.Common.{sym, ◌∙◌}
use Rattle.reducer.specs.Building.{open_toks}
use Rattle.reducer.proofs.PlaceLemmas.{two_before_header}
use Rattle.reducer.proofs.header_wanted.are_before_header.Goals as goal

pub returns-in-2 : goal.returns-in-2
returns-in-2 c =
    two_before_header (open_toks c.args.lines.now) _ _ _ _ _ (sym c.count.ensures ∙ c.in-2.is) c.begins_with_sharp-sharp.ensures c.is_word-in-2.ensures c.is_word-in-2-2.ensures c.is_word-in-2-3.ensures c.is_word-in-2-4.ensures
