use Rattle.std.proofs.Common.{◌∙◌, sym}
use Rattle.line_splice.specs.Cursor.{rest}
use Rattle.lexeme_reader.proofs.AlongLemmas.{line_some}
use Rattle.lexeme_reader.proofs.tests.character.Goals as goal

pub pass_character-requires : goal.pass_character-requires
pass_character-requires g c = line_some (rest c.new-at.result) c.in-Some.byte (sym c.peek.ensures.value ∙ c.in-Some.is) c.if-byte-ne10.true
