use Rattle.std.proofs.Common.{◌∙◌}
use Rattle.line_splice.specs.Cursor.{rest}
use Rattle.pp_lexer.proofs.FoundLemmas.{not_raw_unquoted}
use Rattle.pp_lexer.proofs.lexeme.pass_not_raw.Goals as goal

pub returns-in-None-clause-lexeme : goal.returns-in-None-clause-lexeme
returns-in-None-clause-lexeme c = not_raw_unquoted (rest c.args.at.now) c.args.quote c.in-None.is c.requires.quote ∙ c.pass_unquoted.ensures.lexeme
