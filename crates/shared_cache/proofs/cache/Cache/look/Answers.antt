use Rattle.std.proofs.Common.{refl, subst, [], slice_index_or}
use Rattle.std.specs.declared.result.Result.TheVariants.{Ok}
use Rattle.shard_cache.specs.Rows.{shard_number}
use Rattle.cache_desk.specs.Desk.{fixed_of}
use Rattle.shared_cache.specs.Cache.{SeesLook}
use Rattle.shared_cache.specs.Shared.{locks_fixed, all_seen, seen_of}
use Rattle.shared_cache.proofs.LookLemmas.{sees_look_at, sees_busy_then}
use Rattle.shared_cache.proofs.cache.Cache.look.Goals as goal

-- The second look is one after the first, which left only more that was seen.
pub returns-in-Busy-clause-looks : goal.returns-in-Busy-clause-looks
returns-in-Busy-clause-looks g c =
    let op = g.S.Source.opener_path in let oo = g.S.Source.opener_origin in
    let path = c.args.path.now in
    let by = c.args.passes.now.number in
    let fixed = slice_index_or (locks_fixed fixed_of c.args.self.now.locks.items) (shard_number path) [] in
    let before = seen_of (all_seen c.args.passes.now.passes.items) path in
    let middle = seen_of (all_seen c.look_once.new.passes.passes.items) path in
    let after = seen_of (all_seen c.look_again.new.passes.passes.items) path in
    let (found, shown, sees) = c.look_again.ensures.looks in
    let busy = subst (λ f. SeesLook op oo path by fixed before (Ok f) middle) c.in-Busy.is c.in_ok-answer.ensures.looks in
    let again = sees_look_at op oo path found c.look_once.new.passes.number by fixed fixed middle middle after after c.look_once.ensures.own.1 refl refl refl sees in
    (found, shown, sees_busy_then op oo path found by fixed before middle after busy again)
