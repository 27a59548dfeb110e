use Rattle.std.proofs.lemmas.List.Elements.{All-contains}
use Rattle.shard_cache.specs.Rows.{all_rows, IsRow}
use Rattle.shard_cache.proofs.StoreLemmas.{IsStore-rows}
use Rattle.scheduler.proofs.known.known.Goals as goal

pub told_of-requires-after_bounds : goal.told_of-requires-after_bounds
told_of-requires-after_bounds g c κs within =
    let S = g.S.Source in
    let store = c.args.store.now in
    (All-contains (λ row. IsRow S.given_path S.given_outcome S.given_bytes row) (all_rows store) c.in-Some.row.now
    (IsStore-rows (λ row. IsRow S.given_path S.given_outcome S.given_bytes row) store c.in-Some.ensures.valid) c.in-Some.ensures.row.1).reduced
