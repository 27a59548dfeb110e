use Rattle.std.proofs.Common.{◌≡◌, ◌≤◌, ◌+◌, ◌++◌, map, reverse, vec_len}
use Rattle.std.specs.Vec.{vec_capacity}
use Rattle.shard_cache.specs.Rows.{fresh_shard}
use Rattle.shard_cache.proofs.store.Store.new.Given as goal

abbrev pub invariant-loop-source : goal.invariant-loop-source
invariant-loop-source g l = record {
  made : l.shards.items ++ map (fresh_shard g.S.Source.asked g.S.Source.origin) (reverse l.left.items) ≡ map (fresh_shard g.S.Source.asked g.S.Source.origin) l.fn.sources.items;
  count : vec_len l.shards + vec_len l.left ≡ 16;
  room : 16 ≤ vec_capacity l.shards;
}

abbrev pub decreases-loop-source : goal.decreases-loop-source
decreases-loop-source g l = vec_len l.left
