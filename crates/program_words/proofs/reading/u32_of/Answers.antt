use Rattle.std.proofs.Common.{◌∙◌}
use Rattle.program_words.proofs.NumberLemmas.{number_read}
use Rattle.program_words.proofs.reading.u32_of.Goals as goal

pub returns : goal.returns
returns c = c.unwrap_or.ensures ∙ number_read c.args.text.now c.parse.result c.parse.ensures.value.0
