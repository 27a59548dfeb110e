use Rattle.std.proofs.Common.{◌≡◌, ◌≤◌, ◌∷◌, ◌++◌, [], length, take, drop, All, sym, subst, ◌∙◌, ap, arith}
use Rattle.std.specs.Prelude.{vec_capacity}
use Rattle.std.proofs.lemmas.List.{take_at}
use Rattle.turn_lock.specs.Passes.{lock_fixed, AreFirst}
use Rattle.cache_desk.specs.Desk.{log_of, fixed_of, entries}
use Rattle.shared_cache.specs.Hands.{HaveOneMore, AreMade}
use Rattle.shared_cache.proofs.HandsLemmas.{one_more_lengths, has_place, still_places, made_more}
use Rattle.shared_cache.proofs.parts.Parts.add.Goals as goal

pub deal-requires-clause-places : goal.deal-requires-clause-places
deal-requires-clause-places g c κs within =
    let s = c.args.self.now in
    has_place s.locks.items s.hands.items c.as_mut_slice.result.now c.as_mut_slice.ensures.value c.requires.places.0 c.requires.made.parts.own c.requires.places.1.2

pub returns-clause-made : goal.returns-clause-made
returns-clause-made g c =
    let o = g.S.Source.given_outcome in let b = g.S.Source.given_bytes in
    let s = c.args.self.now in let new = c.in_ok-lock.ensures in
    let lock = c.in_ok-lock.lock in let row = c.in_ok-lock.row in let room = c.in-Ok.room in let after = c.deal.new.hands in
    let log = ap (entries o b) c.requires.fresh in
    let have = subst (λ z. HaveOneMore z row after) c.as_mut_slice.ensures.value (subst (λ z. HaveOneMore c.as_mut_slice.result.now z after) c.into_vec.ensures c.deal.ensures) in
    let first = subst (λ z. AreFirst lock z row) log new.passes.1 in
    let fixed : lock_fixed fixed_of lock ≡ length s.locks.items ∷ c.args.desk.origin ∷ [] = new.lock.2 ∙ ap (λ z. z ∷ c.args.desk.origin ∷ []) c.requires.number in
    let reserved = c.in-Ok.ensures in
    let large = reserved.capacity in
    let made = made_more (log_of o b) fixed_of c.args.workers s.locks.items s.rooms.items s.hands.items lock row room after c.args.desk.origin c.requires.made have first new.lock.0 (ap length (new.lock.1 ∙ log)) fixed (ap length reserved.items) large in
    let written : take s.hands.len (after ++ drop (length after) s.hands.items) ≡ after = take_at after (drop (length after) s.hands.items) s.hands.len (let n = (one_more_lengths s.hands.items row after have).1 in let ok = s.hands.ok.0 in omega arith) in
    subst (λ z. AreMade (log_of o b) fixed_of c.args.workers z c.push_reserved-2.new.self.items (take s.hands.len (after ++ drop (length after) s.hands.items))) (sym c.push_reserved.ensures.items)
    (subst (λ z. AreMade (log_of o b) fixed_of c.args.workers (s.locks.items ++ lock ∷ []) z (take s.hands.len (after ++ drop (length after) s.hands.items))) (sym c.push_reserved-2.ensures.items)
    (subst (λ z. AreMade (log_of o b) fixed_of c.args.workers (s.locks.items ++ lock ∷ []) (s.rooms.items ++ room ∷ []) z) (sym written) made))

pub returns-clause-places : goal.returns-clause-places
returns-clause-places g c =
    let s = c.args.self.now in let after = c.deal.new.hands in let row = c.in_ok-lock.row in
    let have = subst (λ z. HaveOneMore z row after) c.as_mut_slice.ensures.value (subst (λ z. HaveOneMore c.as_mut_slice.result.now z after) c.into_vec.ensures c.deal.ensures) in
    let written : take s.hands.len (after ++ drop (length after) s.hands.items) ≡ after = take_at after (drop (length after) s.hands.items) s.hands.len (let n = (one_more_lengths s.hands.items row after have).1 in let ok = s.hands.ok.0 in omega arith) in
    let places = c.requires.places.1 in
    let first = c.push_reserved.ensures.capacity in let second = c.push_reserved-2.ensures.capacity in
    ((let p = places.0 in omega arith), (let p = places.1 in omega arith), subst (λ z. All (λ hand. 16 ≤ vec_capacity hand.passes) z) (sym written) (still_places s.hands.items row after have places.2))
