use Rattle.std.proofs.Common.{◌≡◌, ◌++◌, map, length}
use Rattle.std.specs.Vec.Iter.{into_iter_items}
use Rattle.expansion.proofs.calls.toks_of.Given as goal

abbrev pub invariant-rest : goal.invariant-rest
invariant-rest l = l.toks.items ++ map (λ m. m.tok) (into_iter_items l.rest) ≡ map (λ m. m.tok) l.fn.list.items

abbrev pub decreases-rest : goal.decreases-rest
decreases-rest l = length (into_iter_items l.rest)
