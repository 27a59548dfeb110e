use Rattle.std.proofs.Common.{◌≡◌, ◌++◌, ℕ, List, length, vec_len}
use Rattle.scan_model.specs.declared.UnitEnd.{UnitEnd}
use Rattle.workers.specs.Places.{AreBelow, ArePlaced}
use Rattle.workers.proofs.gathering.place.Given as goal

abbrev pub invariant-ends : goal.invariant-ends
invariant-ends l = record {
  count : length l.places.items ≡ length l.fn.places.items;
  below : AreBelow (length l.places.items) l.ends.items;
  placed : (before : List (ℕ × UnitEnd)) → ArePlaced before l.fn.places.items → (now : List (ℕ × UnitEnd)) × ArePlaced now l.places.items × (l.ends.items ++ now ≡ l.fn.ends.items ++ before);
}

abbrev pub decreases-ends : goal.decreases-ends
decreases-ends l = vec_len l.ends
