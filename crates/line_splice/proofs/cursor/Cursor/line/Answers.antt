use Rattle.line_splice.specs.Cursor.{rest}
use Rattle.line_splice.proofs.ShownLemmas.{line_is}
use Rattle.line_splice.proofs.cursor.Cursor.line.Goals as goal

pub returns-clause-value : goal.returns-clause-value
unfolding rest
returns-clause-value c = let s = c.args.self.now in line_is s.text.now s.last s.place s.line s.shows s.ends
