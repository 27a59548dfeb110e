use Rattle.std.proofs.Common.{sym, ap, ◌∙◌}
use Rattle.shard_cache.specs.Places.{place_of}
use Rattle.shard_cache.proofs.PlaceLemmas.{place_in}
use Rattle.shard_cache.proofs.places.Places.get.Goals as goal

pub returns : goal.returns
returns c =
    c.copied.ensures ∙ (c.get.ensures.value ∙ (sym (place_in c.self.inside.places.entries c.args.path.now) ∙ ap (λ p. place_of p c.args.path.now) c.self.view_is))
