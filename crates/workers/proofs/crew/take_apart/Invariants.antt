use Rattle.std.proofs.Common.{◌≡◌, ◌+◌, ◌≤◌, ◌++◌, length, map, reverse}
use Rattle.std.specs.Prelude.{vec_capacity}
use Rattle.workers.proofs.crew.take_apart.Given as goal

abbrev pub invariant-hands : goal.invariant-hands
invariant-hands g l = record {
  seats : l.seats.items ++ map (λ hand. hand.seat) (reverse l.hands.items) ≡ map (λ hand. hand.seat) (reverse l.fn.crew.hands.items);
  passes : l.passes.items ++ map (λ hand. hand.passes) (reverse l.hands.items) ≡ map (λ hand. hand.passes) (reverse l.fn.crew.hands.items);
  shares : l.shares.items ++ map (λ hand. hand.share) (reverse l.hands.items) ≡ map (λ hand. hand.share) (reverse l.fn.crew.hands.items);
  seats_room : length l.seats.items + length l.hands.items ≤ vec_capacity l.seats;
  passes_room : length l.passes.items + length l.hands.items ≤ vec_capacity l.passes;
  shares_room : length l.shares.items + length l.hands.items ≤ vec_capacity l.shares;
}

abbrev pub decreases-hands : goal.decreases-hands
decreases-hands g l = length l.hands.items
