use Rattle.std.proofs.Common.{◌≡◌, ◌≤◌, ◌-◌, [], All, length}
use Rattle.made_scan.proofs.store.made_sources.Given as goal

abbrev pub invariant-sources : goal.invariant-sources
invariant-sources g l = (length l.sources.items ≤ 16) × All (λ source. source.asked.items ≡ []) l.sources.items

abbrev pub decreases-sources : goal.decreases-sources
decreases-sources g l = 16 - length l.sources.items
