use Rattle.std.proofs.Common.{◌≡◌, ◌∷◌, [], ◌++◌, subst}
use Rattle.shard_cache.proofs.EndLists.{none_left}
use Rattle.scheduler.proofs.ends.gathered.Goals as goal

pub unreachable-requires : goal.unreachable-requires
unreachable-requires c =
    none_left c.places.gathered.items c.places.left.items c.pop.new.self.items c.args.ends.items
    (subst (λ z. c.places.left.items ≡ c.pop.new.self.items ++ z ∷ []) c.in-None.is c.in-Some.ensures.items) c.places.invariant.made c.requires
