use Rattle.std.proofs.Common.{◌≡◌, ◌+◌, ◌≤◌, length}
use Rattle.std.specs.Prelude.{vec_capacity}
use Rattle.cache_desk.specs.Desk.{log_of, fixed_of}
use Rattle.shared_cache.specs.Hands.{HavePlaces, AreMade}
use Rattle.shared_cache.proofs.NewLemmas.{AreTaken}
use Rattle.shared_cache.proofs.cache.Cache.new.Given as goal

abbrev pub invariant-loop-shard : goal.invariant-loop-shard
invariant-loop-shard g l = record {
  made : AreMade (log_of g.S.Source.given_outcome g.S.Source.given_bytes) fixed_of l.fn.workers l.parts.locks.items l.parts.rooms.items l.parts.hands.items;
  places : HavePlaces l.parts.locks l.parts.rooms l.parts.hands.items;
  bells : length l.bells.items ≡ 16;
  count : length l.left.items + length l.parts.locks.items ≡ 16;
  room : 16 ≤ vec_capacity l.left;
  taken : AreTaken fixed_of l.fn.store l.left.items l.parts.locks.items;
}

abbrev pub decreases-loop-shard : goal.decreases-loop-shard
decreases-loop-shard g l = length l.left.items
