use Rattle.std.proofs.Common.{◌∙◌}
use Rattle.string_set.proofs.StringLemmas.{keys_have}
use Rattle.string_set.proofs.set.StringSet.contains.Goals as goal

pub returns : goal.returns
returns c = rw (← c.self.view_is) (c.contains.ensures ∙ keys_have c.args.string.now c.self.inside.strings.keys)
