use Rattle.std.proofs.Common.{◌≡◌, drop}
use Rattle.std.specs.List.{find}
use Rattle.word_table.specs.Rows.{has_word, entries}
use Rattle.word_table.proofs.search.find.Given as goal

abbrev pub invariant-loop-row : goal.invariant-loop-row
invariant-loop-row l = find (has_word l.word) (entries (drop l.row-index l.rows)) ≡ find (has_word l.word) (entries l.rows)
