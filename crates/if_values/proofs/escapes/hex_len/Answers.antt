use Rattle.std.proofs.Common.{◌∙◌}
use Rattle.if_values.proofs.DigitLemmas.{hex_digits_len}
use Rattle.if_values.proofs.escapes.hex_len.Goals as goal

pub returns-clause-value : goal.returns-clause-value
returns-clause-value c = c.plain_digits_len.ensures.value ∙ hex_digits_len c.args.text.now
