use Rattle.std.proofs.Common.{◌≤◌, ◌+◌, [], length, All, sym, subst, ◌∙◌, ap, arith}
use Rattle.std.specs.Prelude.{vec_capacity}
use Rattle.std.proofs.lemmas.List.{length_push}
use Rattle.std.proofs.lemmas.List.Elements.{All-nil, All-push}
use Rattle.shared_cache.specs.Opening.{AreDealt}
use Rattle.shared_cache.proofs.NewLemmas.{dealt_none, dealt_hand}
use Rattle.shared_cache.proofs.opening.hands.Goals as goal

pub loop-number-init : goal.loop-number-init
loop-number-init g c =
    let none = c.in_ok-hands.ensures.items in
    record {
      count = ap length none;
      within = omega arith;
      room = c.in_ok-hands.ensures.capacity;
      dealt = dealt_none c.in_ok-hands.hands.items none;
      places = subst (λ z. All (λ hand. 16 ≤ vec_capacity hand.passes) z) (sym none) (All-nil _);
    }

pub loop-number-preserved : goal.loop-number-preserved
loop-number-preserved g c =
    let inv = c.loop-number.invariant in let push = c.push_reserved.ensures in let hands = c.loop-number.hands.items in let passes = c.in_ok-passes.passes in
    let count = inv.count in
    record {
      count = ap length push.items ∙ (length_push hands (record { passes = passes; number = c.loop-number.number }) ∙ ap (λ z. z + 1) count);
      within = (let below = c.loop-number-test.true in omega arith);
      room = (let room = inv.room in let same = push.capacity in omega arith);
      dealt = subst (λ z. AreDealt [] z) (sym push.items) (dealt_hand hands (record { passes = passes; number = c.loop-number.number }) inv.dealt c.in_ok-passes.ensures.items (sym count));
      places = subst (λ z. All (λ hand. 16 ≤ vec_capacity hand.passes) z) (sym push.items) (All-push (λ hand. 16 ≤ vec_capacity hand.passes) hands (record { passes = passes; number = c.loop-number.number }) inv.places c.in_ok-passes.ensures.capacity);
    }
