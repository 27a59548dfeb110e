-- What a cursor is seen as: its text, and the spots that it has still to show.
use Rattle.std.specs.Prelude.{ℕ, List}
use Rattle.scan_model.specs.Spliced.{Spot}
use Rattle.line_splice.specs.Rest.{rest_of}
use Rattle.line_splice.specs.declared.cursor.Cursor.{Cursor}

abbrev pub text_of : Cursor → List ℕ
text_of c = c.text.now

unfoldable pub rest : Cursor → List Spot
rest c = rest_of c.text.now c.place c.line c.last
