use Rattle.std.proofs.Common.{rules, ◌≡◌, ◌<◌, List, [], ◌∷◌, length, map, refl, sym, ap, subst, ◌∙◌, arith}
use Rattle.std.proofs.lemmas.List.{length-map}
use Rattle.turn_lock.specs.Passes.{lock_fixed}
use Rattle.shard_cache.specs.Rows.{shard_number}
use Rattle.cache_desk.specs.Desk.{fixed_of}
use Rattle.shared_cache.specs.Shared.{second, locks_fixed, all_seen, seen_of_shard}
use Rattle.shared_cache.proofs.LookLemmas.{sees_look_at}
use Rattle.shared_cache.proofs.SharedLemmas.{fixed_at, same_length, are_at, are_set, seen_was, seen_here, seen_else}
use Rattle.shared_cache.proofs.cache.Cache.look_once.Goals as goal

pub index_mut-pass-requires : goal.index_mut-pass-requires
index_mut-pass-requires g c =
    let l = same_length c.args.self.now.locks.items c.args.passes.now.passes.items c.args.passes.now.number c.requires.own in
    let s = c.args.self.now.sixteen.0 in let b = c.shard_of-number.ensures.bound in search rules

pub look_in-requires-clause-own : goal.look_in-requires-clause-own
look_in-requires-clause-own g c κs within =
    let s = c.args.self.now.sixteen.0 in let b = c.shard_of-number.ensures.bound in
    (are_at c.args.self.now.locks.items c.args.passes.now.passes.items c.args.passes.now.number c.shard_of-number.result _ _ c.requires.own (omega arith) c.index-lock.ensures c.index_mut-pass.ensures.value).0

pub look_in-requires-clause-placed : goal.look_in-requires-clause-placed
look_in-requires-clause-placed g c κs within =
    let s = c.args.self.now.sixteen.0 in let b = c.shard_of-number.ensures.bound in
    let ls = c.args.self.now.locks.items in
    let n = c.shard_of-number.result in
    let num : n ≡ shard_number c.args.path.now = c.shard_of-number.ensures.number ∙ ap shard_number c.as_slice.ensures.value in
    let len : length (locks_fixed fixed_of ls) ≡ length ls = length-map ls (lock_fixed fixed_of) in
    let o = second (Rattle.std.proofs.Common.get_or (locks_fixed fixed_of ls) n []) in
    (o, sym (fixed_at fixed_of ls n _ (omega arith) c.index-lock.ensures) ∙ (c.args.self.now.numbered n (omega arith) ∙ ap (λ k. k ∷ o ∷ []) num))

pub returns-clause-own : goal.returns-clause-own
returns-clause-own g c =
    let s = c.args.self.now.sixteen.0 in let b = c.shard_of-number.ensures.bound in
    let ls = c.args.self.now.locks.items in let ps = c.args.passes.now.passes.items in
    let n = c.shard_of-number.result in
    let at = are_at ls ps c.args.passes.now.number n _ _ c.requires.own (omega arith) c.index-lock.ensures c.index_mut-pass.ensures.value in
    (are_set ls ps c.args.passes.now.number n _ c.look_in.new.pass c.requires.own (omega arith) c.index-lock.ensures c.look_in.ensures.own.0 (c.look_in.ensures.own.1 ∙ at.1), refl)

pub returns-clause-elsewhere : goal.returns-clause-elsewhere
returns-clause-elsewhere g c k other =
    let num : c.shard_of-number.result ≡ shard_number c.args.path.now = c.shard_of-number.ensures.number ∙ ap shard_number c.as_slice.ensures.value in
    seen_else c.args.passes.now.passes.items c.shard_of-number.result k c.look_in.new.pass (λ e. other (e ∙ num))

pub returns-clause-looks : goal.returns-clause-looks
returns-clause-looks g c =
    let s = c.args.self.now.sixteen.0 in let b = c.shard_of-number.ensures.bound in
    let ls = c.args.self.now.locks.items in let ps = c.args.passes.now.passes.items in
    let n = c.shard_of-number.result in
    let len = same_length ls ps c.args.passes.now.number c.requires.own in
    let num : n ≡ shard_number c.args.path.now = c.shard_of-number.ensures.number ∙ ap shard_number c.as_slice.ensures.value in
    let at = are_at ls ps c.args.passes.now.number n _ _ c.requires.own (omega arith) c.index-lock.ensures c.index_mut-pass.ensures.value in
    sees_look_at g.S.Source.opener_path g.S.Source.opener_origin c.args.path.now c.look_in.result _ _ _ _ _ _ _ _
    at.1
    (sym (fixed_at fixed_of ls n _ (omega arith) c.index-lock.ensures) ∙ ap (λ k. Rattle.std.proofs.Common.get_or (locks_fixed fixed_of ls) k []) num)
    (sym (seen_was ps n _ (omega arith) c.index_mut-pass.ensures.value) ∙ ap (λ k. seen_of_shard (all_seen ps) k) num)
    (sym (seen_here ps n c.look_in.new.pass (omega arith)) ∙ ap (λ k. seen_of_shard (all_seen (Rattle.std.proofs.Common.set ps n c.look_in.new.pass)) k) num)
    c.look_in.ensures.looks
