use Rattle.std.proofs.Common.{◌<◌, ◌+◌, length, get_or, take, refl, sym, ap, subst, ◌∙◌, arith}
use Rattle.std.proofs.lemmas.List.{length-set, length_push, take_all}
use Rattle.shared_cache.specs.Hands.{HaveOneMore}
use Rattle.shared_cache.proofs.HandsLemmas.{with_passes, head_same, gives}
use Rattle.shared_cache.proofs.parts.gather.Goals as goal

pub unreachable-requires : goal.unreachable-requires
unreachable-requires g c =
    let now = c.loop-number.hands in let was = c.args.hands.now in let n = c.loop-number.number in
    let hand = get_or now n c.index-hands-number.result in
    let same = head_same n now was hand c.loop-number.invariant.left (ap (λ z. get_or now n z) c.index-hands-number.is) in
    let some = subst (λ h. 0 < length h.passes.items) (sym same) (c.requires.some n hand c.loop-number-test.true) in
    let none = c.in_default.ensures.cases.0 in let count = hand.passes.ok.0 in
    omega arith

pub loop-number-preserved : goal.loop-number-preserved
loop-number-preserved g c =
    let now = c.loop-number.hands in let n = c.loop-number.number in let inv = c.loop-number.invariant in
    let hand = get_or now n c.index-hands-number.result in
    let below = c.loop-number-test.true in let end = c.loop-number.auto.number-end in
    let long = inv.long in let count = inv.count in let places = inv.places in
    let push = c.push_reserved.ensures in
    let given = gives n now c.args.hands.now c.loop-number.room.items c.push_reserved.new.self.items hand c.pop.new.self c.in-Some.pass (omega arith) long (ap (λ z. get_or now n z) c.index-hands-number.is) inv.taken inv.left
    (c.in-Some.ensures.items, refl, sym c.pop.ensures.capacity) push.items in
    record {
      long = length-set now n (with_passes hand c.pop.new.self) ∙ long;
      within = omega arith;
      count = ap length push.items ∙ (length_push c.loop-number.room.items c.in-Some.pass ∙ ap (λ z. z + 1) count);
      places = (let same = push.capacity in omega arith);
      taken = given.0;
      left = given.1;
    }

pub returns : goal.returns
returns g c =
    let now = c.loop-number.hands in let was = c.args.hands.now in let n = c.loop-number.number in let inv = c.loop-number.invariant in
    let past = c.loop-number-test.false in let long = inv.long in
    subst (λ z. HaveOneMore z c.loop-number.room.items was) (take_all n now (omega arith))
    (subst (λ z. HaveOneMore (take n now) c.loop-number.room.items z) (take_all n was past) inv.taken)
