use Rattle.std.proofs.Common.{◌∙◌, ap, sym}
use Rattle.std.specs.Prelude.{unwrap_or}
use Rattle.line_splice.specs.Cursor.{rest}
use Rattle.lexeme_reader.proofs.CharacterLemmas.{no_long_character, no_lead}
use Rattle.lexeme_reader.proofs.character.long_character.Goals as goal

pub returns-then-not-may_begin : goal.returns-then-not-may_begin
returns-then-not-may_begin c = no_long_character (rest c.args.at.now) (rest c.advance.new.self) c.args.first c.unwrap_or-second.result c.requires.here c.advance.ensures.rest
    (c.unwrap_or-second.ensures ∙ ap (λ r. unwrap_or r 0) c.peek.ensures.value) c.requires.long (sym c.may_begin.ensures ∙ c.if-not-may_begin.true)

pub returns-then-not-may_lead : goal.returns-then-not-may_lead
returns-then-not-may_lead c = no_lead (rest c.args.at.now) c.args.first c.requires.here c.requires.long (sym c.may_lead.ensures ∙ c.if-not-may_lead.true)
