use Rattle.std.proofs.Common.{◌∙◌, sym, refl}
use Rattle.std.specs.Char.{is_ascii_digit}
use Rattle.line_splice.specs.Cursor.{rest}
use Rattle.scan_model.specs.Tokens.{bytes}
use Rattle.lexeme_reader.proofs.NameLemmas.{ends_here, ends_none}
use Rattle.lexeme_reader.proofs.NumberLemmas.{number_dotted, none_dotted}
use Rattle.lexeme_reader.proofs.number.pass_dotted.Goals as goal

pub returns-then-not-is_ascii_digit-clause-start : goal.returns-then-not-is_ascii_digit-clause-start
returns-then-not-is_ascii_digit-clause-start c = let b = rest c.pass_found.new.at in let f = c.in-Some.found in (
  none_dotted (rest c.args.at.now) b c.requires c.pass_found.ensures.rest (ends_here (bytes b) f c.in-Some.ensures is_ascii_digit (sym c.is_ascii_digit.ensures.value ∙ c.if-not-is_ascii_digit.true)),
  refl,
)

pub returns-else-not-is_ascii_digit-clause-start : goal.returns-else-not-is_ascii_digit-clause-start
returns-else-not-is_ascii_digit-clause-start c = let b = rest c.pass_found.new.at in
    number_dotted c.in-Some.found (rest c.args.at.now) b (rest c.pass_found-in-Some.new.at) c.requires c.pass_found.ensures.rest c.in-Some.ensures (sym c.is_ascii_digit.ensures.value ∙ c.if-not-is_ascii_digit.false) c.pass_found-in-Some.ensures.rest

pub returns-in-None-clause-start : goal.returns-in-None-clause-start
returns-in-None-clause-start c = let b = rest c.pass_found.new.at in
    (none_dotted (rest c.args.at.now) b c.requires c.pass_found.ensures.rest (ends_none (bytes b) c.in-None.ensures is_ascii_digit), refl)
