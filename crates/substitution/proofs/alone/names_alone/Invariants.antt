use Rattle.std.proofs.Common.{◌≡◌, ◌||◌, ℕ, List, [], drop}
use Rattle.scan_model.specs.Substitution.{stands_alone, is_variable_part}
use Rattle.substitution.specs.Places.{has_name}
use Rattle.substitution.proofs.alone.names_alone.Given as goal

-- the set has the names that stood alone so far
abbrev pub invariant-toks : goal.invariant-toks
invariant-toks l = (q : List ℕ) → let variable = is_variable_part l.definition.variadic q in
    (has_name l.names.keys q || stands_alone variable q l.before l.last (drop l.i l.body)) ≡ stands_alone variable q [] [] l.body
