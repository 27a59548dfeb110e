use Rattle.scanner.proofs.LineLemmas.{LinesSoFar}
use Rattle.scanner.proofs.printing.fault_lines.Given as goal

abbrev pub invariant-loop-place : goal.invariant-loop-place
invariant-loop-place l = LinesSoFar l.ends l.place l.lines.items
