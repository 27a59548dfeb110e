use Rattle.line_splice.specs.Cursor.{rest}
use Rattle.pp_lexer.proofs.BracketLemmas.{bare_none}
use Rattle.pp_lexer.proofs.tokens.token.Goals as goal

pub next_token-requires-clause-bare : goal.next_token-requires-clause-bare
next_token-requires-clause-bare c = bare_none c.args.text.now (rest c.args.at.now)
