use Rattle.std.proofs.Common.{◌∙◌, ◌∷◌, ap, sym, length}
use Rattle.std.proofs.lemmas.Str.{chars_past_char}
use Rattle.std.specs.Str.{chars}
use Rattle.token_spelling.proofs.Utf8Lemmas.{no_chars}
use Rattle.token_spelling.proofs.characters.split_first.Goals as goal

pub returns-in-Some-clause-characters : goal.returns-in-Some-clause-characters
returns-in-Some-clause-characters c =
    chars_past_char c.args.text.now c.next.new.self.rest.now c.in-Some.first c.utf8.text (sym c.chars-rest.ensures.rest ∙ c.in-Some.ensures.steps.0)
    ∙ ap (λ t. c.in-Some.first ∷ chars t) (sym c.as_str.ensures)

pub returns-in-None-clause-characters : goal.returns-in-None-clause-characters
returns-in-None-clause-characters c = no_chars c.args.text.now (ap length (sym c.chars-rest.ensures.rest) ∙ c.in-None.ensures.steps.0.0)
