use Rattle.std.proofs.Common.{◌≡◌, ◌%◌, sum, take}
use Rattle.shard_cache.proofs.store.shard_of.Given as goal

abbrev pub invariant-loop-byte : goal.invariant-loop-byte
invariant-loop-byte l = l.number ≡ sum (take l.byte-index l.path) % 16
