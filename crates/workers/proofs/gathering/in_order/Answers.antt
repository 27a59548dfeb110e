use Rattle.std.proofs.Common.{◌≡◌, ◌∷◌, [], ◌++◌, None, subst}
use Rattle.shard_cache.proofs.EndLists.{none_left}
use Rattle.workers.proofs.gathering.in_order.Goals as goal

pub unreachable-requires : goal.unreachable-requires
unreachable-requires c =
    none_left c.places.ends.items c.places.left.items c.pop.new.self.items c.args.places.items
    (subst (λ z. c.places.left.items ≡ c.pop.new.self.items ++ z ∷ []) c.in-None.is c.in-Some.ensures.items) c.places.invariant.made c.requires.full
