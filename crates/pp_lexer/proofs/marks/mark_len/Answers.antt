use Rattle.std.proofs.Common.{arith}
use Rattle.line_splice.specs.Cursor.{rest}
use Rattle.lexeme_reader.specs.Fronts.{line}
use Rattle.pp_lexer.proofs.MarkLemmas.{line_le}
use Rattle.pp_lexer.proofs.marks.mark_len.Goals as goal

pub returns-in-Some-clause-within : goal.returns-in-Some-clause-within
returns-in-Some-clause-within c = let s = line (rest c.args.at.now) in
    omega (arith, (c.mark_of.ensures s c.in-Some.ensures).1, line_le (rest c.args.at.now))
