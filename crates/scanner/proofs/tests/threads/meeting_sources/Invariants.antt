use Rattle.std.proofs.Common.{◌≡◌, ◌≤◌, ◌-◌, [], All, vec_len}
use Rattle.scanner.proofs.tests.threads.meeting_sources.Given as goal

abbrev pub invariant-shards : goal.invariant-shards
invariant-shards l = (vec_len l.sources ≤ 16) × All (λ source. source.files.asked.items ≡ []) l.sources.items

abbrev pub decreases-shards : goal.decreases-shards
decreases-shards l = 16 - vec_len l.sources
