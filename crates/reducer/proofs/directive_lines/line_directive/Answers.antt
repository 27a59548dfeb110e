use Rattle.std.proofs.Common.{◌∙◌, sym}
use Rattle.reducer.specs.Building.{open_toks}
use Rattle.reducer.specs.Views.{view}
use Rattle.reducer.proofs.DirectiveLemmas.{directive-word}
use Rattle.reducer.proofs.directive_lines.line_directive.Goals as goal

pub returns-in-Some : goal.returns-in-Some
returns-in-Some c =
    c.directive_of.ensures ∙ directive-word (open_toks c.args.lines.now) (view c.in-Some.word) (sym c.begins_with_sharp.ensures ∙ c.if-not-begins_with_sharp.false) c.in-Some.ensures
