use Rattle.std.proofs.Common.{◌≡◌, drop}
use Rattle.word_table.specs.Rows.{longer, longest_row, entries}
use Rattle.word_table.proofs.search.longest.Given as goal

abbrev pub invariant-loop-row : goal.invariant-loop-row
invariant-loop-row l = longer l.best (longest_row l.text (entries (drop l.row-index l.rows))) ≡ longest_row l.text (entries l.rows)
