use Rattle.std.proofs.Common.{◌≡◌, ℕ, List, length, true}
use Rattle.std.specs.List.{list_all}
use Rattle.line_splice.specs.Cursor.{rest}
use Rattle.scan_model.specs.Spelling.{is_continue}
use Rattle.lexeme_reader.specs.Passes.{Passes}
use Rattle.lexeme_reader.proofs.name.pass_continuing.Given as goal

abbrev pub invariant-name : goal.invariant-name
invariant-name l = (l.at.text.now ≡ l.fn.at.text.now) × ((cs : List ℕ) × (list_all is_continue cs ≡ true) × Passes cs (rest l.fn.at) (rest l.at))

abbrev pub decreases-name : goal.decreases-name
decreases-name l = length (rest l.at)
