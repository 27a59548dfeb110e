use Rattle.std.proofs.Common.{◌≡◌, ◌≤◌, ◌*◌, ◌^◌, length, take}
use Rattle.std.specs.List.{sum_by}
use Rattle.shard_cache.proofs.store.Store.paths.Given as goal

abbrev pub invariant-loop-shard : goal.invariant-loop-shard
invariant-loop-shard g l = record {
  counted : l.total ≡ sum_by (λ shard. length shard.rows) (take l.shard-index l.shard-items);
  small : l.total ≤ l.shard-index * 2 ^ 59;
}
