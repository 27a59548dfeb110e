use Rattle.std.proofs.Common.{◌∙◌}
use Rattle.line_splice.specs.Cursor.{rest}
use Rattle.lexeme_reader.proofs.NumberLemmas.{number_more, number_smaller, number_passed}
use Rattle.lexeme_reader.proofs.number.pass_number_from.Goals as goal

pub number-smaller : goal.number-smaller
number-smaller c = number_smaller c.number.before c.in-Some.after (rest c.number.at) (rest c.pass_in_number.new.at) c.in-Some.ensures.goes

pub number-preserved : goal.number-preserved
number-preserved c = (
  c.in-Some.ensures.text ∙ c.number.invariant.0,
  λ start is. number_more c.number.before c.in-Some.after start (rest c.number.at) (rest c.pass_in_number.new.at) (c.number.invariant.1 start is) c.in-Some.ensures.goes,
)

pub returns-clause-whole : goal.returns-clause-whole
returns-clause-whole c = λ start is. c.in_default.ensures.goes.1 ∙ number_passed c.number.before start (rest c.number.at) (c.number.invariant.1 start is) c.in_default.ensures.goes.0
