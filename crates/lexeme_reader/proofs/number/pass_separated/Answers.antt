use Rattle.std.proofs.Common.{◌∙◌, sym, refl}
use Rattle.line_splice.specs.Cursor.{rest}
use Rattle.scan_model.specs.Tokens.{bytes}
use Rattle.lexeme_reader.proofs.NameLemmas.{ends_here, ends_none}
use Rattle.lexeme_reader.proofs.NumberLemmas.{is_separated, goes_separated, stops_separated}
use Rattle.lexeme_reader.proofs.number.pass_separated.Goals as goal

pub returns-then-not-is_separated-clause-goes : goal.returns-then-not-is_separated-clause-goes
returns-then-not-is_separated-clause-goes c = λ before. let b = rest c.pass_found.new.at in (
  stops_separated before (rest c.args.at.now) b c.requires c.pass_found.ensures.rest (ends_here (bytes b) c.in-Some.found c.in-Some.ensures is_separated (sym c.is_separated.ensures ∙ c.if-not-is_separated.true)),
  refl,
)

pub returns-else-not-is_separated-clause-goes : goal.returns-else-not-is_separated-clause-goes
returns-else-not-is_separated-clause-goes c = λ before.
    goes_separated before c.in-Some.found (rest c.args.at.now) (rest c.pass_found.new.at) (rest c.pass_found-in-Some.new.at) c.requires c.pass_found.ensures.rest c.in-Some.ensures
    (sym c.is_separated.ensures ∙ c.if-not-is_separated.false) c.pass_found-in-Some.ensures.rest

pub returns-in-None-clause-goes : goal.returns-in-None-clause-goes
returns-in-None-clause-goes c = λ before. let b = rest c.pass_found.new.at in
    (stops_separated before (rest c.args.at.now) b c.requires c.pass_found.ensures.rest (ends_none (bytes b) c.in-None.ensures is_separated), refl)
