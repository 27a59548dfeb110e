use Rattle.std.proofs.Common.{rules, ◌≡◌, ◌<◌, List, [], ◌∷◌, length, map, refl, sym, ap, subst, ◌∙◌, arith}
use Rattle.shard_cache.specs.Rows.{shard_number}
use Rattle.cache_desk.specs.Log.{standing, Claimed}
use Rattle.shared_cache.specs.Shared.{all_seen, seen_of_shard}
use Rattle.shared_cache.proofs.LookLemmas.{sees_row_at}
use Rattle.shared_cache.proofs.SharedLemmas.{same_length, are_at, are_set, seen_was, seen_here, seen_else}
use Rattle.shared_cache.proofs.cache.Cache.publish.Goals as goal

pub publish_in-requires-clause-own : goal.publish_in-requires-clause-own
publish_in-requires-clause-own g c κs within =
    let s = c.args.self.now.sixteen.0 in let b = c.shard_of-shard.ensures.bound in
    (are_at c.args.self.now.locks.items c.args.passes.now.passes.items c.args.passes.now.number c.shard_of-shard.result _ _ c.requires.own (omega arith) c.index-lock.ensures c.index_mut-pass.ensures.value).0

pub publish_in-requires-clause-claim : goal.publish_in-requires-clause-claim
publish_in-requires-clause-claim g c κs within =
    let s = c.args.self.now.sixteen.0 in let b = c.shard_of-shard.ensures.bound in
    let ls = c.args.self.now.locks.items in let ps = c.args.passes.now.passes.items in
    let n = c.shard_of-shard.result in
    let len = same_length ls ps c.args.passes.now.number c.requires.own in
    let path = c.args.ready.row.path in
    let num : n ≡ shard_number path = c.shard_of-shard.ensures.number ∙ ap shard_number c.as_slice.ensures.value in
    let at = are_at ls ps c.args.passes.now.number n _ _ c.requires.own (omega arith) c.index-lock.ensures c.index_mut-pass.ensures.value in
    let was = sym (seen_was ps n _ (omega arith) c.index_mut-pass.ensures.value) ∙ ap (λ k. seen_of_shard (all_seen ps) k) num in
    ap (λ l. standing l path) was ∙ (c.requires.claim ∙ ap Claimed (sym at.1))

pub returns-clause-own : goal.returns-clause-own
returns-clause-own g c =
    let s = c.args.self.now.sixteen.0 in let b = c.shard_of-shard.ensures.bound in
    let ls = c.args.self.now.locks.items in let ps = c.args.passes.now.passes.items in
    let n = c.shard_of-shard.result in
    let at = are_at ls ps c.args.passes.now.number n _ _ c.requires.own (omega arith) c.index-lock.ensures c.index_mut-pass.ensures.value in
    (are_set ls ps c.args.passes.now.number n _ c.publish_in.new.pass c.requires.own (omega arith) c.index-lock.ensures c.publish_in.ensures.own.0 (c.publish_in.ensures.own.1 ∙ at.1), refl)

pub returns-clause-elsewhere : goal.returns-clause-elsewhere
returns-clause-elsewhere g c k other =
    let num : c.shard_of-shard.result ≡ shard_number c.args.ready.row.path = c.shard_of-shard.ensures.number ∙ ap shard_number c.as_slice.ensures.value in
    seen_else c.args.passes.now.passes.items c.shard_of-shard.result k c.publish_in.new.pass (λ e. other (e ∙ num))

pub returns-clause-publishes : goal.returns-clause-publishes
returns-clause-publishes g c =
    let s = c.args.self.now.sixteen.0 in let b = c.shard_of-shard.ensures.bound in
    let ls = c.args.self.now.locks.items in let ps = c.args.passes.now.passes.items in
    let n = c.shard_of-shard.result in
    let len = same_length ls ps c.args.passes.now.number c.requires.own in
    let num : n ≡ shard_number c.args.ready.row.path = c.shard_of-shard.ensures.number ∙ ap shard_number c.as_slice.ensures.value in
    let at = are_at ls ps c.args.passes.now.number n _ _ c.requires.own (omega arith) c.index-lock.ensures c.index_mut-pass.ensures.value in
    sees_row_at g.S.Source.given_outcome g.S.Source.given_bytes c.args.ready.row _ _ _ _ _ _
    at.1
    (sym (seen_was ps n _ (omega arith) c.index_mut-pass.ensures.value) ∙ ap (λ k. seen_of_shard (all_seen ps) k) num)
    (sym (seen_here ps n c.publish_in.new.pass (omega arith)) ∙ ap (λ k. seen_of_shard (all_seen (Rattle.std.proofs.Common.set ps n c.publish_in.new.pass)) k) num)
    c.publish_in.ensures.publishes
