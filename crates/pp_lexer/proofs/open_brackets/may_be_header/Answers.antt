use Rattle.std.proofs.Common.{arith}
use Rattle.line_splice.specs.Cursor.{rest}
use Rattle.pp_lexer.proofs.BracketLemmas.{no_header}
use Rattle.pp_lexer.proofs.open_brackets.may_be_header.Goals as goal

pub returns-then-raw_from-bare_to-clause-none : goal.returns-then-raw_from-bare_to-clause-none
returns-then-raw_from-bare_to-clause-none c said =
    no_header (rest c.args.at.now) (c.opens_bracket.ensures.0 c.if-not-opens_bracket.false) (c.requires 0 (omega (arith, c.raw_from.ensures, c.if-raw_from-bare_to.true)))

pub returns-in-Some-clause-none : goal.returns-in-Some-clause-none
returns-in-Some-clause-none c said = no_header (rest c.args.at.now) (c.opens_bracket.ensures.0 c.if-not-opens_bracket.false) c.in-Some.ensures.closing
