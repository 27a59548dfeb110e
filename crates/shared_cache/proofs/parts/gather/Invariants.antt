use Rattle.std.proofs.Common.{◌≡◌, ◌≤◌, length, take, drop}
use Rattle.std.specs.Prelude.{vec_capacity}
use Rattle.shared_cache.specs.Hands.{HaveOneMore}
use Rattle.shared_cache.proofs.parts.gather.Given as goal

abbrev pub invariant-loop-number : goal.invariant-loop-number
invariant-loop-number g l = record {
  long : length l.hands ≡ length l.fn.hands;
  within : l.number ≤ length l.fn.hands;
  count : length l.room.items ≡ l.number;
  places : length l.fn.hands ≤ vec_capacity l.room;
  taken : HaveOneMore (take l.number l.hands) l.room.items (take l.number l.fn.hands);
  left : drop l.number l.hands ≡ drop l.number l.fn.hands;
}
