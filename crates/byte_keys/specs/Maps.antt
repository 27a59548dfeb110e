-- Maps whose keys are bytes.
use Rattle.std.specs.Prelude.{◌≡◌, ℕ, Bool, Some, List, map, if◌then◌else◌}
use Rattle.std.specs.Option.{option_map}
use Rattle.std.specs.Map.{lookup, KeepsOthers}
use Rattle.std.specs.declared.alloc.Global.{Global}
use Rattle.std.specs.declared.vec.Vec.{Vec}
use Rattle.scan_model.specs.TokenTests.{same}

-- whether a key is these bytes
abbrev pub is_at : List ℕ → Vec ℕ Global → Bool
is_at bytes key = same bytes key.items

-- whether two keys are the same bytes
abbrev pub same_key : Vec ℕ Global → Vec ℕ Global → Bool
same_key k l = same k.items l.items

-- these bytes have this value now, and each other key what it had
abbrev pub IsPut : {V : Type 0} → List ℕ → V → List (Vec ℕ Global × V) → List (Vec ℕ Global × V) → Type 0
IsPut bytes value old new =
    (other : List ℕ) → lookup (is_at other) new ≡ (if same bytes other then Some value else lookup (is_at other) old)

-- what a map tells of a put under a key of these bytes says so
abbrev pub PutChangesOne : Type 0 → Type 0
PutChangesOne V = (bytes key : List ℕ) (value : V) (old new : List (Vec ℕ Global × V)) → key ≡ bytes →
    lookup (is_at key) new ≡ Some value → KeepsOthers same_key (is_at key) old new → IsPut bytes value old new

-- an entry with its key as bytes, and its value as f sees it
abbrev pub entry_by : {V W : Type 0} → (V → W) → Vec ℕ Global × V → List ℕ × W
entry_by f e = (e.0.items, f e.1)

-- a list of such entries finds what the map finds
abbrev pub EntriesFindAlike : Type 0 → Type 0 → Type 0
EntriesFindAlike V W = (f : V → W) (es : List (Vec ℕ Global × V)) (bytes : List ℕ) →
    lookup (same bytes) (map (entry_by f) es) ≡ option_map f (lookup (is_at bytes) es)
