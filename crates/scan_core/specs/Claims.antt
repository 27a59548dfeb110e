-- One row more.
use Rattle.std.specs.Prelude.{◌≡◌, ℕ, nat_eq, List, [], ◌∷◌, ◌++◌, None}
use Rattle.std.specs.Cmp.Lexicographic.{pointwise}
use Rattle.std.specs.Map.{lookup}
use Rattle.std.specs.declared.alloc.Global.{Global}
use Rattle.std.specs.declared.vec.Vec.{Vec}
use Rattle.scan_core.specs.declared.seat.Kept.{Kept}
use Rattle.scan_core.specs.declared.seat.Kept.TheVariants as KeptIs

-- no row has the path
abbrev pub Lacks : {R : Type 0} → List (Vec ℕ Global × Kept R) → List ℕ → Type 0
Lacks entries path = lookup (λ key. pointwise nat_eq path key.items) entries ≡ None

-- the last row is that of the path, claimed by this worker
pub record IsClaim {R : Type 0} (old new : List (Vec ℕ Global × Kept R)) (path : List ℕ) (worker : ℕ) : Type 0 where
  pub key : Vec ℕ Global
  pub path_is : key.items ≡ path
  pub rows : new ≡ old ++ (key, KeptIs.Claimed worker) ∷ []
