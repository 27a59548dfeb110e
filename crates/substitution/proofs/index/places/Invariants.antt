use Rattle.std.proofs.Common.{◌≡◌, ◌≤◌, ℕ, List, length, drop}
use Rattle.scan_model.specs.MacroDefinition.{all_params}
use Rattle.substitution.specs.Places.{place_in, place_of}
use Rattle.substitution.proofs.PlaceLemmas.{shifted}
use Rattle.substitution.proofs.index.places.Given as goal

-- the map has the parameters from this place on
abbrev pub invariant-params : goal.invariant-params
invariant-params l = let names = all_params l.definition.params l.definition.variadic in
    (l.place ≤ length names) × ((q : List ℕ) → place_in l.places.entries q ≡ shifted l.place (place_of (drop l.place names) q))

abbrev pub decreases-params : goal.decreases-params
decreases-params l = l.place
