use Rattle.std.proofs.Common.{refl, ap, sym, ◌∙◌}
use Rattle.word_table.specs.Rows.{longest_row}
use Rattle.word_table.specs.Tables.{punctuators, firsts}
use Rattle.word_table.proofs.FirstLemmas.{longest_from, longest_of_none}
use Rattle.word_table.proofs.tables.punctuator.Goals as goal

pub returns-then-text-eq0 : goal.returns-then-text-eq0
returns-then-text-eq0 c = sym (longest_of_none punctuators firsts c.args.text.now refl c.if-text-eq0.true)

pub returns : goal.returns
returns c = c.longest.ensures ∙ ap (longest_row c.args.text.now) c.rows_from.ensures ∙ longest_from punctuators firsts c.args.text.now refl c.if-text-eq0.false
