use Rattle.std.proofs.Common.{◌≡◌, ◌≤◌, ◌-◌, [], All, vec_len}
use Rattle.shared_cache.proofs.tests.sources.Given as goal

abbrev pub invariant-loop-alloc : goal.invariant-loop-alloc
invariant-loop-alloc l = (vec_len l.sources ≤ 16) × All (λ source. source.asked.items ≡ []) l.sources.items

abbrev pub decreases-loop-alloc : goal.decreases-loop-alloc
decreases-loop-alloc l = 16 - vec_len l.sources
