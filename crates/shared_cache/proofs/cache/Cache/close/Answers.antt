use Rattle.std.proofs.Common.{All, sym, subst, ◌∙◌, ap}
use Rattle.cache_desk.specs.Desk.{log_of, fixed_of}
use Rattle.shard_cache.specs.Rows.{all_rows, all_origins}
use Rattle.shard_cache.specs.StoreMap.{IsOneMap, file_map}
use Rattle.shared_cache.specs.Shared.{all_seen, HasRowsOf}
use Rattle.shared_cache.specs.Closed.{AreClaimed, IsPublished}
use Rattle.shared_cache.proofs.HandsLemmas.{parts_all}
use Rattle.shared_cache.proofs.CloseLemmas.{all_closed}
use Rattle.shared_cache.proofs.ClosedLemmas.{closed_store, closed_map, closed_claimed, closed_published, closed_seen}
use Rattle.shared_cache.proofs.cache.Cache.close.Goals as goal

pub close-requires-clause-parts : goal.close-requires-clause-parts
close-requires-clause-parts g c κs within =
    let s = c.args.self in
    parts_all (log_of g.S.Source.given_outcome g.S.Source.given_bytes) fixed_of s.locks.items c.into_inner-rows.result.rows.items c.args.passes c.into_vec-hands.result.items c.into_vec-hands.ensures s.sixteen.0 c.into_inner-rows.result.rows_are.0 s.numbered s.fresh s.few c.into_inner-rows.result.rows_are.1 c.requires.all c.requires.own

pub of_shards-requires-after_bounds : goal.of_shards-requires-after_bounds
of_shards-requires-after_bounds g c κs within =
    let gp = g.S.Source.given_path in let o = g.S.Source.given_outcome in let b = g.S.Source.given_bytes in let go = g.S.Source.given_origin in
    let s = c.args.self in
    let closed = all_closed gp o b go fixed_of c.args.passes c.into_vec-hands.result.items c.into_inner-rows.result.shards.items c.close.result.items s.locks.items c.into_vec-hands.ensures c.into_inner-rows.result.empty.0 s.sixteen.0 c.close.ensures in
    closed_store gp o b go c.args.passes c.close.result.items closed.0 closed.1

pub returns-clause-seen : goal.returns-clause-seen
returns-clause-seen g c =
    let gp = g.S.Source.given_path in let o = g.S.Source.given_outcome in let b = g.S.Source.given_bytes in let go = g.S.Source.given_origin in
    let s = c.args.self in
    let closed = all_closed gp o b go fixed_of c.args.passes c.into_vec-hands.result.items c.into_inner-rows.result.shards.items c.close.result.items s.locks.items c.into_vec-hands.ensures c.into_inner-rows.result.empty.0 s.sixteen.0 c.close.ensures in
    subst (λ z. All (λ hand. HasRowsOf (file_map o b (all_rows z)) (all_seen hand.passes.items)) c.args.passes) (sym c.of_shards.ensures) (closed_seen gp o b go c.args.passes c.close.result.items closed.0 closed.1)

pub returns-clause-published : goal.returns-clause-published
returns-clause-published g c =
    let gp = g.S.Source.given_path in let o = g.S.Source.given_outcome in let b = g.S.Source.given_bytes in let go = g.S.Source.given_origin in
    let s = c.args.self in
    let closed = all_closed gp o b go fixed_of c.args.passes c.into_vec-hands.result.items c.into_inner-rows.result.shards.items c.close.result.items s.locks.items c.into_vec-hands.ensures c.into_inner-rows.result.empty.0 s.sixteen.0 c.close.ensures in
    subst (λ z. All (IsPublished o b c.args.passes) (all_rows z)) (sym c.of_shards.ensures) (closed_published gp o b go c.args.passes 0 c.close.result.items closed.0)

pub returns-clause-claims : goal.returns-clause-claims
returns-clause-claims g c =
    let gp = g.S.Source.given_path in let o = g.S.Source.given_outcome in let b = g.S.Source.given_bytes in let go = g.S.Source.given_origin in
    let s = c.args.self in
    let closed = all_closed gp o b go fixed_of c.args.passes c.into_vec-hands.result.items c.into_inner-rows.result.shards.items c.close.result.items s.locks.items c.into_vec-hands.ensures c.into_inner-rows.result.empty.0 s.sixteen.0 c.close.ensures in
    subst (λ z. AreClaimed c.args.passes 0 z) (sym c.of_shards.ensures) (closed_claimed gp o b go c.args.passes 0 c.close.result.items closed.0)

pub returns-clause-map : goal.returns-clause-map
returns-clause-map g c =
    let gp = g.S.Source.given_path in let o = g.S.Source.given_outcome in let b = g.S.Source.given_bytes in let go = g.S.Source.given_origin in
    let s = c.args.self in
    let closed = all_closed gp o b go fixed_of c.args.passes c.into_vec-hands.result.items c.into_inner-rows.result.shards.items c.close.result.items s.locks.items c.into_vec-hands.ensures c.into_inner-rows.result.empty.0 s.sixteen.0 c.close.ensures in
    subst (λ z. IsOneMap gp go z) (sym c.of_shards.ensures) (closed_map gp o b go c.args.passes c.close.result.items closed.0 closed.1)

pub returns-clause-origins : goal.returns-clause-origins
returns-clause-origins g c =
    let gp = g.S.Source.given_path in let o = g.S.Source.given_outcome in let b = g.S.Source.given_bytes in let go = g.S.Source.given_origin in
    let s = c.args.self in
    let closed = all_closed gp o b go fixed_of c.args.passes c.into_vec-hands.result.items c.into_inner-rows.result.shards.items c.close.result.items s.locks.items c.into_vec-hands.ensures c.into_inner-rows.result.empty.0 s.sixteen.0 c.close.ensures in
    ap all_origins c.of_shards.ensures ∙ closed.2
