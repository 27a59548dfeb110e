use Rattle.std.proofs.Common.{rules, ◌≡◌, length, sym, ap, subst, ◌∙◌}
use Rattle.std.specs.Prelude.{IsSome}
use Rattle.shard_cache.specs.Places.{place_of, IsPlaced, IsIndexOf}
use Rattle.shard_cache.proofs.PlaceLemmas.{index_more, known_on}
use Rattle.cache_desk.proofs.rows.add_row.Goals as goal

pub returns-clause-index : goal.returns-clause-index
returns-clause-index g c =
    let rows = c.args.rows.now.items in
    let old = c.args.places.now in
    let new = c.change.new.self in
    let put : IsPlaced c.args.row.path (length rows) old new =
    subst (λ n. IsPlaced c.args.row.path n old new) (search rules)
    (subst (λ k. IsPlaced k c.len-place.result old new) c.as_slice.ensures.value c.change.ensures) in
    subst (λ rs. IsIndexOf (λ row. row.path) rs new) (sym c.push_reserved.ensures.items) (index_more (λ row. row.path) rows c.args.row old new put c.requires.index)

pub returns-clause-known : goal.returns-clause-known
returns-clause-known g c path some = known_on _ _ c.args.places.now c.change.new.self c.change.ensures path some
