use Rattle.std.proofs.Common.{◌≡◌, length}
use Rattle.line_splice.specs.Cursor.{rest}
use Rattle.scan_model.specs.Tokens.{from_place}
use Rattle.line_splice.proofs.cursor.Cursor.walk_to.Given as goal

abbrev pub invariant-to : goal.invariant-to
invariant-to l = record { text : l.self.text.now ≡ l.fn.self.text.now; same : from_place l.place (rest l.self) ≡ from_place l.place (rest l.fn.self) }

abbrev pub decreases-to : goal.decreases-to
decreases-to l = length (rest l.self)
