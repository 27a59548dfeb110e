use Rattle.std.proofs.Common.{◌∙◌, sym, []}
use Rattle.reducer.specs.Views.{view}
use Rattle.reducer.proofs.DirectiveLemmas.{directive_of-word, directive_of-number}
use Rattle.reducer.proofs.directive_lines.directive_of.Goals as goal

pub returns-then-is_number : goal.returns-then-is_number
returns-then-is_number c = directive_of-number (view c.args.word) [] (sym c.is_number.ensures ∙ c.if-is_number.true)

pub returns : goal.returns
returns c = c.directive_numbered.ensures ∙ directive_of-word (view c.args.word) [] c.directive_word.result (sym c.is_number.ensures ∙ c.if-is_number.false) c.directive_word.ensures
