use Rattle.std.proofs.Common.{◌≡◌, ◌||◌, ℕ, List, [], drop}
use Rattle.substitution.specs.Places.{has_name}
use Rattle.substitution.specs.Written.{stands_as_operand}
use Rattle.substitution.proofs.written.names_of_operands.Given as goal

-- the set has the names that stood as operands so far
abbrev pub invariant-toks : goal.invariant-toks
invariant-toks l = (q : List ℕ) → (has_name l.names.keys q || stands_as_operand q l.last (drop l.i l.body)) ≡ stands_as_operand q [] l.body
