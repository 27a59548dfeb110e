use Rattle.std.proofs.Common.{◌∙◌}
use Rattle.line_splice.specs.Cursor.{rest, text_of}
use Rattle.pp_lexer.proofs.BracketLemmas.{found_lexeme}
use Rattle.pp_lexer.proofs.open_brackets.pass_next_lexeme.Goals as goal

pub returns-then-wants-clause-lexeme : goal.returns-then-wants-clause-lexeme
returns-then-wants-clause-lexeme c before w =
    found_lexeme (text_of c.args.at.now) before (rest c.args.at.now) (rest c.pass_lexeme.new.at) c.pass_lexeme.result c.may_be_header-may_be.result (w ∙ c.if-wants.true)
    c.may_be_header-may_be.ensures.none c.pass_lexeme.ensures.lexeme

pub returns-else-wants-clause-lexeme : goal.returns-else-wants-clause-lexeme
returns-else-wants-clause-lexeme c before w = c.pass_lexeme-else-wants.ensures.lexeme before (w ∙ c.if-wants.false)
