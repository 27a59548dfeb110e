use Rattle.line_splice.specs.Cursor.{rest}
use Rattle.pp_lexer.proofs.RawLemmas.{suffix_ahead}
use Rattle.pp_lexer.proofs.spelled.push_raw.Goals as goal

pub push_passed-requires-clause-ahead : goal.push_passed-requires-clause-ahead
push_passed-requires-clause-ahead c = (suffix_ahead c.args.parts (rest c.args.to.now) c.requires.parts.1).0
