use Rattle.std.proofs.Common.{◌≡◌, drop, []}
use Rattle.scan_model.specs.Substitution.{stands_alone}
use Rattle.substitution.proofs.alone.stands_alone.Given as goal

-- the parameter hasn't stood alone so far
abbrev pub invariant-toks : goal.invariant-toks
invariant-toks l = stands_alone l.variable l.name l.before l.last (drop l.i l.body) ≡ stands_alone l.variable l.name [] [] l.body
