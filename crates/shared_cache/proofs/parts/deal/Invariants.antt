use Rattle.std.proofs.Common.{◌≡◌, ◌≤◌, length, take, drop}
use Rattle.std.specs.Prelude.{vec_capacity}
use Rattle.shared_cache.specs.Hands.{HaveOneMore}
use Rattle.shared_cache.proofs.parts.deal.Given as goal

abbrev pub invariant-loop-pass : goal.invariant-loop-pass
invariant-loop-pass g l = record {
  long : length l.hands ≡ length l.fn.hands;
  within : length l.row.items ≤ length l.fn.row.items;
  capacity : vec_capacity l.row ≡ vec_capacity l.fn.row;
  kept : l.row.items ≡ take (length l.row.items) l.fn.row.items;
  left : take (length l.row.items) l.hands ≡ take (length l.row.items) l.fn.hands;
  dealt : HaveOneMore (drop (length l.row.items) l.fn.hands) (drop (length l.row.items) l.fn.row.items) (drop (length l.row.items) l.hands);
}

abbrev pub decreases-loop-pass : goal.decreases-loop-pass
decreases-loop-pass g l = length l.row.items
