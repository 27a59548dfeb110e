use Rattle.std.proofs.Common.{◌+◌, [], ◌∷◌, ◌++◌, length, reverse, sym, subst, ◌∙◌, ap, arith}
use Rattle.std.proofs.lemmas.List.{length-map, length-reverse, length_push, reverse-reverse}
use Rattle.turn_lock.specs.Passes.{lock_fixed}
use Rattle.shard_cache.specs.Rows.{IsRow, IsStore}
use Rattle.cache_desk.specs.Desk.{log_of, fixed_of}
use Rattle.shared_cache.specs.Shared.{HavePasses, locks_fixed}
use Rattle.shared_cache.specs.Opening.{AreDealt}
use Rattle.shared_cache.specs.Hands.{AreParts}
use Rattle.shared_cache.proofs.NewLemmas.{AreTaken, few_each, none_taken, next_bare, one_taken, all_taken, desk_back, store_back}
use Rattle.shared_cache.proofs.cache.Cache.new.Goals as goal

pub loop-shard-init : goal.loop-shard-init
loop-shard-init g c =
    let shards = c.into_shards-left.result in let left = c.reverse.new.self in let made = c.in-Ok-no_locks.ensures in
    let turned = c.reverse.ensures.items in let all = c.into_shards-left.ensures.shards in
    let sixteen = ap length all ∙ c.into_shards-left.ensures.valid.sixteen in
    record {
      made = made.made;
      places = made.places;
      bells = c.in-Ok.ensures;
      count = (let none = made.none in let n = ap length turned ∙ length-reverse shards.items in omega arith);
      room = (let ok = shards.ok in let same = c.reverse.ensures.capacity in omega arith);
      taken = none_taken fixed_of c.args.store left.items c.in-Ok-no_locks.parts.locks.items (ap reverse turned ∙ (reverse-reverse shards.items ∙ all)) made.none;
    }

pub new-desk-requires-after_bounds : goal.new-desk-requires-after_bounds
new-desk-requires-after_bounds g c κs within =
    c.into_source.ensures.0 ∙ (next_bare fixed_of c.args.store c.loop-shard.left.items c.pop.new.self.items c.loop-shard.parts.locks.items c.in-Some.shard c.requires.fresh c.in-Some.ensures.items c.loop-shard.invariant.taken).0

pub add-requires-clause-fresh : goal.add-requires-clause-fresh
add-requires-clause-fresh g c κs within = ap (λ d. d.events) c.new-desk.ensures

pub add-requires-clause-number : goal.add-requires-clause-number
add-requires-clause-number g c κs within =
    ap (λ d. d.number) c.new-desk.ensures ∙ (c.len-number.ensures ∙ c.loop-shard.parts.locks.ok.0)

pub add-requires-clause-places : goal.add-requires-clause-places
add-requires-clause-places g c κs within =
    ((let count = c.loop-shard.invariant.count in let n = ap length c.in-Some.ensures.items ∙ length_push c.pop.new.self.items c.in-Some.shard in omega arith), c.loop-shard.invariant.places)

pub close-requires-clause-parts : goal.close-requires-clause-parts
close-requires-clause-parts g c κs within =
    subst (λ p. AreParts (log_of g.S.Source.given_outcome g.S.Source.given_bytes) fixed_of p.locks.items p.rooms.items p.hands.items) (sym c.in-Err.ensures.err.1) c.loop-shard.invariant.made.parts

pub close-requires-clause-places : goal.close-requires-clause-places
close-requires-clause-places g c κs within =
    let push = c.push_reserved.ensures in let inv = c.loop-shard.invariant in
    let n = ap length push.items ∙ length_push c.pop.new.self.items c.into_shard.result in
    let m = ap length c.in-Some.ensures.items ∙ length_push c.pop.new.self.items c.in-Some.shard in
    let same = ap (λ p. length p.locks.items) c.in-Err.ensures.err.1 in
    let count = inv.count in let room = inv.room in let first = c.pop.ensures.capacity in let second = push.capacity in
    omega arith

pub of_shards-requires-after_bounds : goal.of_shards-requires-after_bounds
of_shards-requires-after_bounds g c κs within =
    let gp = g.S.Source.given_path in let o = g.S.Source.given_outcome in let b = g.S.Source.given_bytes in let go = g.S.Source.given_origin in
    let store = c.args.store in let left = c.loop-shard.left.items in let less = c.pop.new.self.items in let shard = c.in-Some.shard in let cut = c.in-Some.ensures.items in
    let inv = c.loop-shard.invariant in let err = c.in-Err.ensures.err in let parts = c.add.new.self in
    let bare = next_bare fixed_of store left less c.loop-shard.parts.locks.items shard c.requires.fresh cut inv.taken in
    let same = desk_back shard c.into_shard.result c.new-desk.result c.in-Err.desk _ _ bare err.0 c.new-desk.ensures c.into_source.ensures.1 c.into_shard.ensures.shard in
    let whole = c.push_reserved.ensures.items ∙ (ap (λ s. less ++ s ∷ []) same ∙ sym cut) in
    let back = store_back gp o b go fixed_of store left c.push_reserved.new.self.items c.close.result.items parts.locks.items parts.hands.items c.requires.fresh
    (subst (λ p. AreDealt p.locks.items p.hands.items) (sym err.1) inv.made.dealt) whole (subst (λ p. AreTaken fixed_of store left p.locks.items) (sym err.1) inv.taken) c.close.ensures in
    subst (λ z. IsStore (IsRow gp o b) z) (sym back) c.into_shards-left.ensures.valid

pub returns-in-Err : goal.returns-in-Err
returns-in-Err g c =
    let gp = g.S.Source.given_path in let o = g.S.Source.given_outcome in let b = g.S.Source.given_bytes in let go = g.S.Source.given_origin in
    let store = c.args.store in let left = c.loop-shard.left.items in let less = c.pop.new.self.items in let shard = c.in-Some.shard in let cut = c.in-Some.ensures.items in
    let inv = c.loop-shard.invariant in let err = c.in-Err.ensures.err in let parts = c.add.new.self in
    let bare = next_bare fixed_of store left less c.loop-shard.parts.locks.items shard c.requires.fresh cut inv.taken in
    let same = desk_back shard c.into_shard.result c.new-desk.result c.in-Err.desk _ _ bare err.0 c.new-desk.ensures c.into_source.ensures.1 c.into_shard.ensures.shard in
    let whole = c.push_reserved.ensures.items ∙ (ap (λ s. less ++ s ∷ []) same ∙ sym cut) in
    let back = store_back gp o b go fixed_of store left c.push_reserved.new.self.items c.close.result.items parts.locks.items parts.hands.items c.requires.fresh
    (subst (λ p. AreDealt p.locks.items p.hands.items) (sym err.1) inv.made.dealt) whole (subst (λ p. AreTaken fixed_of store left p.locks.items) (sym err.1) inv.taken) c.close.ensures in
    record { count = tt; passes = tt; origins = tt; err = c.of_shards.ensures ∙ back }

pub loop-shard-preserved : goal.loop-shard-preserved
loop-shard-preserved g c =
    let inv = c.loop-shard.invariant in let made = c.in_default-add.ensures in
    let before = c.loop-shard.parts.locks.items in let after = c.add.new.self.locks.items in
    let cut = c.in-Some.ensures.items in let desk = c.new-desk.result in
    record {
      made = made.made;
      places = made.places;
      bells = inv.bells;
      count = (let n = ap length cut ∙ length_push c.pop.new.self.items c.in-Some.shard in let count = inv.count in
          let m = sym (length-map after (lock_fixed fixed_of)) ∙ (ap length made.fixed ∙ (length_push (locks_fixed fixed_of before) (fixed_of desk) ∙ ap (λ z. z + 1) (length-map before (lock_fixed fixed_of)))) in omega arith);
      room = (let room = inv.room in let same = c.pop.ensures.capacity in omega arith);
      taken = one_taken fixed_of c.args.store c.loop-shard.left.items c.pop.new.self.items before after c.in-Some.shard (fixed_of desk) cut made.fixed (ap (λ d. d.origin) c.new-desk.ensures ∙ c.into_source.ensures.1) inv.taken;
    }

pub invariant_of-cache : goal.invariant_of-cache
invariant_of-cache g c =
    let inv = c.loop-shard.invariant in let parts = c.loop-shard.parts in let made = inv.made.parts in
    let cases = c.in_default-pop.ensures.cases in
    let none = cases.0 in let ok = c.loop-shard.left.ok.0 in let still = cases.1 in let also = c.pop.new.self.ok.0 in
    let count = inv.count in let rooms = made.rooms_are in
    record {
      sixteen = (omega arith, inv.bells);
      numbered = made.numbered;
      fresh = made.fresh;
      few = few_each parts.locks.items (length parts.hands.items) made.counted made.few;
    }

pub returns : goal.returns
returns g c =
    let inv = c.loop-shard.invariant in let parts = c.loop-shard.parts in let made = inv.made in
    let hands = c.of_vec.ensures in
    let cases = c.in_default-pop.ensures.cases in
    record {
      count = (ap length hands ∙ made.count, subst (λ n. HavePasses parts.locks.items n) made.count made.parts.counted);
      passes = subst (λ z. AreDealt parts.locks.items z) (sym hands) made.dealt;
      origins = all_taken fixed_of c.args.store c.loop-shard.left.items parts.locks.items (let none = cases.0 in let ok = c.loop-shard.left.ok.0 in omega arith) inv.taken;
      err = tt;
    }
