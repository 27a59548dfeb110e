use Rattle.std.proofs.Common.{◌≡◌, ◌≤◌, length}
use Rattle.line_splice.specs.Cursor.{rest}
use Rattle.reducer.specs.Placed.{IsFurther}
use Rattle.reducer.proofs.PassLemmas.{StaysText}
use Rattle.reducer.proofs.reduction.pass_line.Given as goal

abbrev pub invariant-tokens : goal.invariant-tokens
invariant-tokens l = record {
  same : l.at.text.now ≡ l.fn.at.text.now;
  kept : StaysText l.fn.at.text.now (rest l.fn.at) (rest l.at);
  further : IsFurther l.fn.at.text.now (rest l.fn.at) (rest l.at);
  less : length (rest l.at) ≤ length (rest l.fn.at);
}

abbrev pub decreases-tokens : goal.decreases-tokens
decreases-tokens l = length (rest l.at)
