use Rattle.std.proofs.Common.{rules, ◌≡◌, refl, subst}
use Rattle.std.specs.Prelude.{is_err, false}
use Rattle.shard_cache.specs.Places.{entries, IsPlaced}
use Rattle.shard_cache.proofs.PlaceLemmas.{is_placed, at_ok}
use Rattle.shard_cache.proofs.places.Places.put.Goals as goal

pub returns-clause-ok : goal.returns-clause-ok
returns-clause-ok c =
    let fine : is_err c.insert.result ≡ false = search rules in
    let u = at_ok c.insert.result fine c.insert.ensures.updates in
    subst (λ old. IsPlaced c.args.path.items c.args.place old (entries c.insert.new.self.entries)) c.self.view_is
    (is_placed c.args.path.items c.args.path.items c.args.place c.self.inside.places.entries c.insert.new.self.entries refl u.1 u.3)
