use Rattle.std.proofs.Common.{◌≡◌, ◌≤◌, length, take}
use Rattle.if_values.specs.UnaryRows.{prefixed_by}
use Rattle.if_values.proofs.climb.with_row.Given as goal

abbrev pub invariant-row : goal.invariant-row
invariant-row l = record {
  within : l.left ≤ length l.row;
  same : prefixed_by (take l.left l.row) l.operand ≡ prefixed_by l.row l.initial.operand;
}

abbrev pub decreases-row : goal.decreases-row
decreases-row l = l.left
