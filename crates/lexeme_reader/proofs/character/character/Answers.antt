use Rattle.std.proofs.Common.{◌∙◌, sym, subst}
use Rattle.line_splice.specs.Cursor.{rest}
use Rattle.scan_model.specs.Tokens.{bytes}
use Rattle.lexeme_reader.specs.Character.{BeginsWith}
use Rattle.lexeme_reader.proofs.CharacterLemmas.{nothing_here}
use Rattle.lexeme_reader.proofs.FrontLemmas.{ascii_begins}
use Rattle.lexeme_reader.proofs.character.character.Goals as goal

pub returns-then-byte-lt128 : goal.returns-then-byte-lt128
returns-then-byte-lt128 c = let s = rest c.args.at.now in
    subst (λ b. BeginsWith b (bytes s)) (sym c.from.ensures) (ascii_begins s c.in-Some.byte (sym c.peek.ensures.value ∙ c.in-Some.is) c.if-byte-lt128.true)

pub returns-in-None : goal.returns-in-None
returns-in-None c = nothing_here (rest c.args.at.now) (sym c.peek.ensures.value ∙ c.in-None.is)
