use Rattle.std.proofs.Common.{◌∙◌, ap, is_some}
use Rattle.token_spelling.proofs.TableLemmas.{alternative_found}
use Rattle.token_spelling.proofs.punctuators.is_alternative.Goals as goal

pub returns : goal.returns
returns c = c.is_some.ensures ∙ ap is_some c.operator_word.ensures ∙ alternative_found c.args.spelling.now
