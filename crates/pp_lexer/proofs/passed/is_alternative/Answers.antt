use Rattle.std.proofs.Common.{◌∙◌, ap, is_some}
use Rattle.pp_lexer.proofs.PassedLemmas.{alternative_found}
use Rattle.pp_lexer.proofs.passed.is_alternative.Goals as goal

pub returns : goal.returns
returns c = c.is_some.ensures ∙ ap is_some c.operator_word.ensures ∙ alternative_found c.args.text.now
