use Rattle.std.proofs.Common.{◌≡◌, ◌≤◌, [], length, All}
use Rattle.std.specs.Prelude.{vec_capacity}
use Rattle.shared_cache.specs.Opening.{AreDealt}
use Rattle.shared_cache.proofs.opening.hands.Given as goal

abbrev pub invariant-loop-number : goal.invariant-loop-number
invariant-loop-number g l = record {
  count : length l.hands.items ≡ l.number;
  within : l.number ≤ l.fn.workers;
  room : l.fn.workers ≤ vec_capacity l.hands;
  dealt : AreDealt [] l.hands.items;
  places : All (λ hand. 16 ≤ vec_capacity hand.passes) l.hands.items;
}
