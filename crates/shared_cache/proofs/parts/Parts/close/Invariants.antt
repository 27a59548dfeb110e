use Rattle.std.proofs.Common.{◌+◌, ◌≤◌, length, map}
use Rattle.std.specs.Prelude.{vec_capacity}
use Rattle.std.specs.List.{AllZip}
use Rattle.cache_desk.specs.Desk.{log_of, fixed_of}
use Rattle.shared_cache.specs.Shared.{second, locks_fixed}
use Rattle.shared_cache.specs.Hands.{AreParts}
use Rattle.shared_cache.proofs.HandsLemmas.{IsBegun}
use Rattle.shared_cache.proofs.CloseLemmas.{AreLeft}
use Rattle.shared_cache.proofs.parts.Parts.close.Given as goal

abbrev pub invariant-loop-lock : goal.invariant-loop-lock
invariant-loop-lock g l = record {
  parts : AreParts (log_of g.S.Source.given_outcome g.S.Source.given_bytes) fixed_of l.locks.items l.rooms.items l.hands.items;
  begun : AllZip IsBegun l.hands.items l.fn.self.hands.items;
  places : length l.shards.items + length l.locks.items ≤ vec_capacity l.shards;
  left : AreLeft g.S.Source.given_path g.S.Source.given_outcome g.S.Source.given_bytes g.S.Source.given_origin fixed_of l.fn.self.hands.items (map second (locks_fixed fixed_of l.fn.self.locks.items)) l.fn.shards.items l.shards.items l.locks.items;
}

abbrev pub decreases-loop-lock : goal.decreases-loop-lock
decreases-loop-lock g l = length l.locks.items
