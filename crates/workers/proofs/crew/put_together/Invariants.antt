use Rattle.std.proofs.Common.{◌≡◌, ◌+◌, ◌≤◌, ◌++◌, length, map, reverse}
use Rattle.std.specs.Prelude.{vec_capacity}
use Rattle.workers.proofs.crew.put_together.Given as goal

abbrev pub invariant-hands : goal.invariant-hands
invariant-hands g l = record {
  seats : l.seats.items ++ map (λ hand. hand.seat) (reverse l.hands.items) ≡ l.fn.crew.seats.items;
  passes : l.passes.items ++ map (λ hand. hand.passes) (reverse l.hands.items) ≡ l.fn.crew.passes.items;
  shares : l.shares.items ++ map (λ hand. hand.share) (reverse l.hands.items) ≡ l.fn.crew.shares.items;
  passes_count : length l.passes.items ≡ length l.seats.items;
  shares_count : length l.shares.items ≡ length l.seats.items;
  count : length l.hands.items + length l.seats.items ≤ vec_capacity l.hands;
  seats_room : vec_capacity l.seats ≡ vec_capacity l.fn.crew.seats;
  passes_room : vec_capacity l.passes ≡ vec_capacity l.fn.crew.passes;
  shares_room : vec_capacity l.shares ≡ vec_capacity l.fn.crew.shares;
}

abbrev pub decreases-hands : goal.decreases-hands
decreases-hands g l = length l.seats.items
