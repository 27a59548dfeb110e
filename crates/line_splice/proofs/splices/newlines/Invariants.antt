use Rattle.std.proofs.Common.{◌≡◌, ◌≤◌, ◌-◌, take, length}
use Rattle.line_splice.specs.Plain.{newlines}
use Rattle.line_splice.proofs.splices.newlines.Given as goal

abbrev pub invariant-loop-passed : goal.invariant-loop-passed
invariant-loop-passed l = record { count : l.count ≡ newlines (take l.passed l.written); few : l.count ≤ l.passed; within : l.passed ≤ length l.written }

abbrev pub decreases-loop-passed : goal.decreases-loop-passed
decreases-loop-passed l = length l.written - l.passed
