use Rattle.std.proofs.Common.{◌∙◌, sym, refl}
use Rattle.std.proofs.lemmas.Bool.{ne_eqb}
use Rattle.line_splice.specs.Cursor.{rest}
use Rattle.lexeme_reader.proofs.NumberLemmas.{number_digit, none_here, none_at_all}
use Rattle.lexeme_reader.proofs.number.pass_number_start.Goals as goal

pub returns-then-not-is_ascii_digit-clause-start : goal.returns-then-not-is_ascii_digit-clause-start
returns-then-not-is_ascii_digit-clause-start c = (
  none_here c.in-Some.found (rest c.args.at.now) c.in-Some.ensures (sym c.is_ascii_digit.ensures.value ∙ c.if-not-is_ascii_digit.true) (ne_eqb c.in-Some.found 46 c.if-found-eq46.false),
  refl,
)

pub returns-else-not-is_ascii_digit-clause-start : goal.returns-else-not-is_ascii_digit-clause-start
returns-else-not-is_ascii_digit-clause-start c =
    number_digit c.in-Some.found (rest c.args.at.now) (rest c.pass_found.new.at) c.in-Some.ensures (sym c.is_ascii_digit.ensures.value ∙ c.if-not-is_ascii_digit.false) c.pass_found.ensures.rest

pub returns-in-None-clause-start : goal.returns-in-None-clause-start
returns-in-None-clause-start c = (none_at_all (rest c.args.at.now) c.in-None.ensures, refl)
