use Rattle.std.proofs.Common.{◌≡◌, ◌++◌, length, map, take, drop, refl, sym, ap, subst, ◌∙◌, arith}
use Rattle.std.specs.List.{AllZip}
use Rattle.std.proofs.lemmas.List.{take_at, length_push}
use Rattle.turn_lock.specs.Passes.{lock_fixed}
use Rattle.cache_desk.specs.Desk.{log_of, fixed_of}
use Rattle.shared_cache.specs.Shared.{second, locks_fixed}
use Rattle.shared_cache.specs.Hands.{AreParts}
use Rattle.shared_cache.specs.Closing.{ClosesLast}
use Rattle.shared_cache.proofs.HandsLemmas.{IsBegun, begun_same, begun_less, one_more_lengths, parts_at, last_needs, parts_less}
use Rattle.shared_cache.proofs.CloseLemmas.{AreLeft, all_left, one_left, none_left}
use Rattle.shared_cache.proofs.parts.Parts.close.Goals as goal

pub loop-lock-init : goal.loop-lock-init
loop-lock-init g c = record {
  parts = c.requires.parts;
  begun = begun_same c.args.self.hands.items;
  places = c.requires.places;
  left = all_left g.S.Source.given_path g.S.Source.given_outcome g.S.Source.given_bytes g.S.Source.given_origin fixed_of c.args.self.hands.items c.args.shards.items c.args.self.locks.items;
}

pub close_last-requires-clause-fresh : goal.close_last-requires-clause-fresh
close_last-requires-clause-fresh g c κs within =
    (last_needs (log_of g.S.Source.given_outcome g.S.Source.given_bytes) fixed_of c.pop.new.self.items c.in-Some.lock c.pop-in-Some.new.self.items c.in-Some-pop.room c.as_mut_slice.result.now
    (parts_at _ fixed_of c.loop-lock.locks.items _ _ c.loop-lock.rooms.items _ _ c.loop-lock.hands.items _ c.in-Some.ensures.items c.in-Some-pop.ensures.items c.as_mut_slice.ensures.value c.loop-lock.invariant.parts)).0

pub close_last-requires-clause-count : goal.close_last-requires-clause-count
close_last-requires-clause-count g c κs within =
    (last_needs (log_of g.S.Source.given_outcome g.S.Source.given_bytes) fixed_of c.pop.new.self.items c.in-Some.lock c.pop-in-Some.new.self.items c.in-Some-pop.room c.as_mut_slice.result.now
    (parts_at _ fixed_of c.loop-lock.locks.items _ _ c.loop-lock.rooms.items _ _ c.loop-lock.hands.items _ c.in-Some.ensures.items c.in-Some-pop.ensures.items c.as_mut_slice.ensures.value c.loop-lock.invariant.parts)).1

pub close_last-requires-clause-last : goal.close_last-requires-clause-last
close_last-requires-clause-last g c κs within =
    (last_needs (log_of g.S.Source.given_outcome g.S.Source.given_bytes) fixed_of c.pop.new.self.items c.in-Some.lock c.pop-in-Some.new.self.items c.in-Some-pop.room c.as_mut_slice.result.now
    (parts_at _ fixed_of c.loop-lock.locks.items _ _ c.loop-lock.rooms.items _ _ c.loop-lock.hands.items _ c.in-Some.ensures.items c.in-Some-pop.ensures.items c.as_mut_slice.ensures.value c.loop-lock.invariant.parts)).2

pub close_last-requires-clause-room : goal.close_last-requires-clause-room
close_last-requires-clause-room g c κs within =
    (last_needs (log_of g.S.Source.given_outcome g.S.Source.given_bytes) fixed_of c.pop.new.self.items c.in-Some.lock c.pop-in-Some.new.self.items c.in-Some-pop.room c.as_mut_slice.result.now
    (parts_at _ fixed_of c.loop-lock.locks.items _ _ c.loop-lock.rooms.items _ _ c.loop-lock.hands.items _ c.in-Some.ensures.items c.in-Some-pop.ensures.items c.as_mut_slice.ensures.value c.loop-lock.invariant.parts)).3

pub loop-lock-preserved : goal.loop-lock-preserved
loop-lock-preserved g c =
    let gp = g.S.Source.given_path in let o = g.S.Source.given_outcome in let b = g.S.Source.given_bytes in let go = g.S.Source.given_origin in
    let lock = c.in-Some.lock in let locks = c.pop.new.self.items in let cut = c.in-Some.ensures.items in
    let room = c.in-Some-pop.room in let rooms = c.pop-in-Some.new.self.items in
    let hands = c.loop-lock.hands.items in let less = c.close_last.new.hands in let all = c.args.self.hands.items in
    let origins = map second (locks_fixed fixed_of c.args.self.locks.items) in
    let inv = c.loop-lock.invariant in let push = c.push_reserved.ensures in let value = c.as_mut_slice.ensures.value in
    let parts = parts_at (log_of o b) fixed_of c.loop-lock.locks.items locks lock c.loop-lock.rooms.items rooms room hands hands cut c.in-Some-pop.ensures.items refl inv.parts in
    let closes = subst (λ z. ClosesLast gp o b go (lock_fixed fixed_of lock) z less c.close_last.result) value c.close_last.ensures in
    let long = (one_more_lengths less closes.0 hands closes.1).1 in
    let written : take c.loop-lock.hands.len (less ++ drop (length less) hands) ≡ less = take_at less (drop (length less) hands) c.loop-lock.hands.len (let ok = c.loop-lock.hands.ok.0 in omega arith) in
    record {
      parts = subst (λ z. AreParts (log_of o b) fixed_of locks rooms z) (sym written) (parts_less (log_of o b) fixed_of locks lock rooms room less closes.0 hands parts closes.1);
      begun = subst (λ z. AllZip IsBegun z all) (sym written) (begun_less less closes.0 hands all closes.1 inv.begun);
      places = (let was = inv.places in let n = ap length push.items ∙ length_push c.loop-lock.shards.items c.close_last.result in let m = ap length cut ∙ length_push locks lock in let same = push.capacity in omega arith);
      left = one_left gp o b go fixed_of all origins c.args.shards.items c.loop-lock.shards.items c.push_reserved.new.self.items locks lock hands less c.close_last.result inv.begun parts.own parts.numbered closes push.items
          (subst (λ z. AreLeft gp o b go fixed_of all origins c.args.shards.items c.loop-lock.shards.items z) cut inv.left);
    }

pub returns : goal.returns
returns g c =
    let gp = g.S.Source.given_path in let o = g.S.Source.given_outcome in let b = g.S.Source.given_bytes in let go = g.S.Source.given_origin in
    let cases = c.in_default.ensures.cases in let ok = c.loop-lock.locks.ok.0 in
    let none : length c.loop-lock.locks.items ≡ 0 = (let a = cases.0 in omega arith) in
    none_left gp o b go fixed_of c.args.self.hands.items (map second (locks_fixed fixed_of c.args.self.locks.items)) c.args.shards.items c.loop-lock.shards.items c.reverse.new.self.items c.loop-lock.locks.items none c.reverse.ensures.items c.loop-lock.invariant.left
