use Rattle.std.proofs.Common.{◌≡◌, drop, []}
use Rattle.substitution.specs.Written.{stands_as_operand}
use Rattle.substitution.proofs.written.stands_as_operand.Given as goal

-- the parameter hasn't stood as an operand so far
abbrev pub invariant-toks : goal.invariant-toks
invariant-toks l = stands_as_operand l.name l.last (drop l.i l.body) ≡ stands_as_operand l.name [] l.body
