use Rattle.std.proofs.Common.{◌∙◌, sym, refl}
use Rattle.std.proofs.lemmas.Bool.{ne_eqb}
use Rattle.line_splice.specs.Cursor.{rest}
use Rattle.scan_model.specs.Tokens.{bytes}
use Rattle.lexeme_reader.proofs.NumberLemmas.{goes_one, stops_here}
use Rattle.lexeme_reader.proofs.number.pass_in_number.Goals as goal

pub returns-then-not-goes_on-clause-goes : goal.returns-then-not-goes_on-clause-goes
returns-then-not-goes_on-clause-goes c = (
  stops_here c.args.before c.in-Some.found (bytes (rest c.args.at.now)) c.in-Some.ensures (ne_eqb c.in-Some.found 39 c.if-found-eq39.false) (sym c.goes_on.ensures ∙ c.if-not-goes_on.true),
  refl,
)

pub returns-else-not-goes_on-clause-goes : goal.returns-else-not-goes_on-clause-goes
returns-else-not-goes_on-clause-goes c =
    goes_one c.args.before c.in-Some.found (rest c.args.at.now) (rest c.pass_found.new.at) c.in-Some.ensures (sym c.goes_on.ensures ∙ c.if-not-goes_on.false) c.pass_found.ensures.rest
