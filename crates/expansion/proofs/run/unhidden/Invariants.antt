use Rattle.std.proofs.Common.{◌≡◌, map, take}
use Rattle.expansion.specs.Lists.{unhidden}
use Rattle.expansion.proofs.run.unhidden.Given as goal

abbrev pub invariant-loop-tok : goal.invariant-loop-tok
invariant-loop-tok l = l.list.items ≡ map unhidden (take l.tok-index l.toks)
