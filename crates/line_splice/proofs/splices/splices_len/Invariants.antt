use Rattle.std.proofs.Common.{length, ◌-◌, ◌≡◌, ◌+◌, ◌≤◌, ℕ, drop}
use Rattle.scan_model.specs.Spliced.{shown}
use Rattle.line_splice.proofs.splices.splices_len.Given as goal

abbrev pub invariant-loop-len : goal.invariant-loop-len
invariant-loop-len l = record {
  within : l.len ≤ length l.text;
  few : l.lines ≤ l.len;
  same : (last place line : ℕ) → shown last 0 place line l.text ≡ shown last 0 (place + l.len) (line + l.lines) (drop l.len l.text);
}

abbrev pub decreases-loop-len : goal.decreases-loop-len
decreases-loop-len l = length l.text - l.len
