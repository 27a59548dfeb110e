use Rattle.line_splice.specs.Cursor.{rest}
use Rattle.line_splice.proofs.ShownLemmas.{place_is}
use Rattle.line_splice.proofs.cursor.Cursor.raw_from.Goals as goal

pub returns : goal.returns
unfolding rest
returns c = let s = c.args.self.now in place_is s.text.now s.last s.place s.line s.shows s.within
