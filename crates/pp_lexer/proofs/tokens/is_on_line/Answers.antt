use Rattle.std.proofs.Common.{◌∙◌, sym}
use Rattle.line_splice.specs.Cursor.{rest}
use Rattle.pp_lexer.proofs.TokenLemmas.{on_line, on_line_end}
use Rattle.pp_lexer.proofs.tokens.is_on_line.Goals as goal

pub returns-in-Some : goal.returns-in-Some
returns-in-Some c = on_line (rest c.args.at.now) c.in-Some.byte (sym c.peek.ensures.value ∙ c.in-Some.is)

pub returns-in-None : goal.returns-in-None
returns-in-None c = on_line_end (rest c.args.at.now) (sym c.peek.ensures.value ∙ c.in-None.is)
