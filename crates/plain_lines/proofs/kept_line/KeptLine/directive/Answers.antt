use Rattle.std.proofs.Common.{◌∙◌}
use Rattle.plain_lines.specs.Lines.{toks_at}
use Rattle.plain_lines.proofs.DirectiveLemmas.{directive_after}
use Rattle.plain_lines.proofs.kept_line.KeptLine.directive.Goals as goal

pub returns-clause-word : goal.returns-clause-word
returns-clause-word c = c.directive.ensures.directive ∙ directive_after c.args.self.now.dialect (toks_at c.args.self.now) c.requires.hash
