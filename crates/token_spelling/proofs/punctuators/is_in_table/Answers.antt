use Rattle.std.proofs.Common.{◌∙◌, ap, sym}
use Rattle.token_spelling.proofs.TableLemmas.{is_whole, table_whole}
use Rattle.token_spelling.proofs.punctuators.is_in_table.Goals as goal

pub returns-in-Some : goal.returns-in-Some
returns-in-Some c = let s = c.args.spelling.now in ap (is_whole s) (sym c.in-Some.is ∙ c.punctuator.ensures) ∙ table_whole s

pub returns-in-None : goal.returns-in-None
returns-in-None c = let s = c.args.spelling.now in ap (is_whole s) (sym c.in-None.is ∙ c.punctuator.ensures) ∙ table_whole s
