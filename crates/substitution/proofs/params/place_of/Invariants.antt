use Rattle.std.proofs.Common.{◌≡◌, length, drop}
use Rattle.scan_model.specs.MacroDefinition.{all_params}
use Rattle.substitution.specs.Places.{place_of}
use Rattle.substitution.proofs.PlaceLemmas.{shifted}
use Rattle.substitution.proofs.params.place_of.Given as goal

-- no parameter so far has the name
abbrev pub invariant-params : goal.invariant-params
invariant-params l = let names = all_params l.definition.params l.definition.variadic in
    (l.i-end ≡ length names) × (shifted l.i (place_of (drop l.i names) l.name) ≡ place_of names l.name)
