use Rattle.std.proofs.Common.{rules, refl, sym, subst}
use Rattle.std.specs.Prelude.{IsSome}
use Rattle.shard_cache.specs.Places.{entries, place_of, IsPlaced}
use Rattle.shard_cache.proofs.PlaceLemmas.{place_in, is_placed, none_some}
use Rattle.shard_cache.proofs.places.Places.change.Goals as goal

pub unreachable-requires : goal.unreachable-requires
unreachable-requires c =
    let path = c.args.path.now in
    let some = subst IsSome (place_in c.self.inside.places.entries path) (subst (λ p. IsSome (place_of p path)) (sym c.self.view_is) c.requires) in
    none_some c.get_mut.result _ c.get_mut.ensures.value (search rules) some

pub returns : goal.returns
returns c other =
    let path = c.args.path.now in
    let es = c.self.inside.places.entries in
    let some = subst IsSome (place_in es path) (subst (λ p. IsSome (place_of p path)) (sym c.self.view_is) c.requires) in
    let u = (c.get_mut.follows.holds c.args.place).3 some in
    subst (λ old. IsPlaced path c.args.place old (entries (c.get_mut.follows.lender c.args.place).entries)) c.self.view_is
    (is_placed path path c.args.place es (c.get_mut.follows.lender c.args.place).entries refl u.1 u.3) other
