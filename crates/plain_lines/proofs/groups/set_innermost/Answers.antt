use Rattle.std.proofs.Common.{◌∙◌}
use Rattle.plain_lines.proofs.GroupLemmas.{groups_of-set}
use Rattle.plain_lines.proofs.groups.set_innermost.Goals as goal

pub returns-then-len-gt0 : goal.returns-then-len-gt0
returns-then-len-gt0 c = λ g gs e. groups_of-set c.args.groups.now.items c.len-len.result c.args.group g gs (c.len-len.ensures ∙ c.args.groups.now.ok.0) e
