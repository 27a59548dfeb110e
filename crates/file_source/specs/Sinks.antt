-- What a sink holds, and how often it has failed.
use Rattle.std.specs.Prelude.{◌≡◌, ◌≤◌, ◌+◌, ◌-◌, ◌^◌, ℕ, Bool, min, ◌/◌, ◌==◌, ◌||◌, nat_lt, if◌then◌else◌, Option, Some, None, List, ◌++◌, take}
use Rattle.std.specs.List.{list_any}

-- a count of faults rose, or stands at its type's end
abbrev pub Rose : ℕ → ℕ → Type 0
Rose before now = min (before + 1) (2 ^ 64 - 1) ≤ now

-- the whole piece was added
abbrev pub Adds : Option (List ℕ) → List ℕ → Option (List ℕ) → Type 0
Adds (Some old) piece new = new ≡ Some (old ++ piece)
Adds None piece new = new ≡ None

-- a prefix of the piece was added
abbrev pub AddsPrefix : Option (List ℕ) → List ℕ → Option (List ℕ) → Type 0
AddsPrefix (Some old) piece new = (n : ℕ) × (new ≡ Some (old ++ take n piece))
AddsPrefix None piece new = new ≡ None

-- a count that stands still at its type's end
abbrev pub next_count : ℕ → ℕ
next_count n = min (n + 1) (2 ^ 64 - 1)

-- the put of this number is to fail
abbrev pub is_listed : List ℕ → ℕ → Bool
is_listed failing number = list_any (λ listed. listed == number) failing

-- a put fails: it is to fail, or its whole piece doesn't fit in the room left
abbrev pub is_refused : ℕ → ℕ → Bool → Bool
is_refused piece left listed = listed || nat_lt left piece

-- how much of a piece a memory sink adds: all of it, or half of it where its number is listed, as far as it fits
abbrev pub added_len : ℕ → ℕ → Bool → ℕ
added_len piece left listed = min (if listed then piece / 2 else piece) left
