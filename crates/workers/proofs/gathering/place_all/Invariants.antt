use Rattle.std.proofs.Common.{◌≡◌, ◌++◌, ℕ, List, All, length, vec_len}
use Rattle.std.specs.List.{flat_map}
use Rattle.scan_model.specs.declared.UnitEnd.{UnitEnd}
use Rattle.worker.specs.Shares.{ends_in}
use Rattle.workers.specs.Places.{AreBelow, ArePlaced}
use Rattle.workers.proofs.gathering.place_all.Given as goal

abbrev pub invariant-shares : goal.invariant-shares
invariant-shares l = record {
  count : length l.places.items ≡ length l.fn.places.items;
  below : All (λ share. AreBelow (length l.places.items) (ends_in share)) l.shares.items;
  placed : (now : List (ℕ × UnitEnd)) × ArePlaced now l.places.items × (flat_map ends_in l.shares.items ++ now ≡ flat_map ends_in l.fn.shares.items);
}

abbrev pub decreases-shares : goal.decreases-shares
decreases-shares l = vec_len l.shares
