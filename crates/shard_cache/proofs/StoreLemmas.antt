-- What callers use of a store: what a step leaves, and that its rows are one map.
use Rattle.std.proofs.Common.{◌≡◌, ◌≢◌, ◌<◌, ◌≤◌, ◌+◌, ℕ, zero, suc, List, [], ◌∷◌, ◌++◌, All, Contains, length, get_or, refl, ap, subst, arith}
use Rattle.std.proofs.lemmas.List.{map-append}
use Rattle.std.proofs.lemmas.List.Elements.{All-nil, All-cons, All-head, All-tail, All-append, All-map, All-weaker, Contains-append_left, Contains-append_right}
use Rattle.shard_cache.specs.declared.kept_row.KeptRow.{KeptRow}
use Rattle.shard_cache.specs.Rows.{ShardView, AreShards, IsStore, LacksPath, AllDiffer, paths_of, shard_number, change_at, asked_also, kept_also, all_rows, all_origins}
use Rattle.shard_cache.proofs.RowLemmas.{All-parts}

-- an ask leaves all rows
pub all_rows-asked : {S O G : Type 0} (path : List ℕ) (k : ℕ) (shards : List (ShardView S O G)) → all_rows (change_at (asked_also path) k shards) ≡ all_rows shards
all_rows-asked path k [] = refl
all_rows-asked path zero (s ∷ ss) = refl
all_rows-asked path (suc k) (s ∷ ss) = ap (λ rows. s.rows ++ rows) (all_rows-asked path k ss)

-- and every origin
pub all_origins-asked : {S O G : Type 0} (path : List ℕ) (k : ℕ) (shards : List (ShardView S O G)) → all_origins (change_at (asked_also path) k shards) ≡ all_origins shards
all_origins-asked path k [] = refl
all_origins-asked path zero (s ∷ ss) = refl
all_origins-asked path (suc k) (s ∷ ss) = ap (λ rest. s.origin ∷ rest) (all_origins-asked path k ss)

-- and so does an add
pub all_origins-kept : {S O G : Type 0} (row : KeptRow S O G) (k : ℕ) (shards : List (ShardView S O G)) → all_origins (change_at (kept_also row) k shards) ≡ all_origins shards
all_origins-kept row k [] = refl
all_origins-kept row zero (s ∷ ss) = refl
all_origins-kept row (suc k) (s ∷ ss) = ap (λ rest. s.origin ∷ rest) (all_origins-kept row k ss)

-- what holds of all rows and of a row that is added holds of all rows then
pub All-kept : {S O G : Type 0} (P : KeptRow S O G → Type 0) (row : KeptRow S O G) (k : ℕ) (shards : List (ShardView S O G)) → P row → All P (all_rows shards) → All P (all_rows (change_at (kept_also row) k shards))
All-kept P row k [] new h = h
All-kept P row zero (s ∷ ss) new h =
    let parts : All P s.rows × All P (all_rows ss) = All-parts P s.rows (all_rows ss) h in
    All-append P (s.rows ++ row ∷ []) (all_rows ss) (All-append P s.rows (row ∷ []) parts.0 (All-cons P row [] new (All-nil P))) parts.1
All-kept P row (suc k) (s ∷ ss) new h =
    let parts : All P s.rows × All P (all_rows ss) = All-parts P s.rows (all_rows ss) h in
    All-append P s.rows (all_rows (change_at (kept_also row) k ss)) parts.0 (All-kept P row k ss new parts.1)

-- a row of another path leaves a path without a row
pub LacksPath-kept : {S O G : Type 0} (row : KeptRow S O G) (k : ℕ) (shards : List (ShardView S O G)) (path : List ℕ) → row.path ≢ path → LacksPath shards path → LacksPath (change_at (kept_also row) k shards) path
LacksPath-kept {S = S} {O = O} {G = G} row k shards path other lacks = All-kept (λ (r : KeptRow S O G). r.path ≢ path) row k shards other lacks

-- a path whose shard comes before those of the others is none of them
apart : (p : List ℕ) (n : ℕ) (qs : List (List ℕ)) → shard_number p ≡ n → All (λ q. n < shard_number q) qs → All (λ q. p ≢ q) qs
apart p n qs here later =
    All-weaker (λ (q : List ℕ). n < shard_number q) (λ (q : List ℕ). p ≢ q)
    (λ q after e. let same : shard_number p ≡ shard_number q = ap shard_number e in absurd (omega (arith, same, here, after))) qs later

pub AllDiffer-append : (n : ℕ) (ps qs : List (List ℕ)) → AllDiffer ps → AllDiffer qs → All (λ p. shard_number p ≡ n) ps → All (λ q. n < shard_number q) qs → AllDiffer (ps ++ qs)
AllDiffer-append n [] qs dp dq here later = dq
AllDiffer-append n (p ∷ ps) qs dp dq here later =
    (All-append (λ q. p ≢ q) ps qs dp.0 (apart p n qs (All-head (λ (r : List ℕ). shard_number r ≡ n) p ps here) later), AllDiffer-append n ps qs dp.1 dq (All-tail (λ (r : List ℕ). shard_number r ≡ n) p ps here) later)

-- no two rows of the shards from number n on have the same path, and their paths' numbers are at least n
record AreApart {S O G : Type 0} (n : ℕ) (shards : List (ShardView S O G)) : Type 0 where
  differ : AllDiffer (paths_of (all_rows shards))
  placed : All (λ q. n ≤ shard_number q) (paths_of (all_rows shards))

apart-shards : {S O G : Type 0} (fits : KeptRow S O G → Type 0) (n : ℕ) (shards : List (ShardView S O G)) → AreShards fits n shards → AreApart n shards
apart-shards fits n [] are = record { differ = tt; placed = All-nil _ }
apart-shards {S = S} {O = O} {G = G} fits n (s ∷ ss) are =
    let rest : AreApart (suc n) ss = apart-shards fits (suc n) ss are.1 in
    let here : All (λ q. shard_number q ≡ n) (paths_of s.rows) = All-map (λ (q : List ℕ). shard_number q ≡ n) (λ (row : KeptRow S O G). row.path) s.rows are.0.placed in
    let later : All (λ q. n < shard_number q) (paths_of (all_rows ss)) = All-weaker (λ (q : List ℕ). suc n ≤ shard_number q) (λ (q : List ℕ). n < shard_number q) (λ q h. omega (arith, h)) (paths_of (all_rows ss)) rest.placed in
    let at_least : All (λ q. n ≤ shard_number q) (paths_of s.rows) = All-weaker (λ (q : List ℕ). shard_number q ≡ n) (λ (q : List ℕ). n ≤ shard_number q) (λ q h. omega (arith, h)) (paths_of s.rows) here in
    let from_here : All (λ q. n ≤ shard_number q) (paths_of (all_rows ss)) = All-weaker (λ (q : List ℕ). suc n ≤ shard_number q) (λ (q : List ℕ). n ≤ shard_number q) (λ q h. omega (arith, h)) (paths_of (all_rows ss)) rest.placed in
    record {
      differ = rw (map-append (λ (row : KeptRow S O G). row.path) s.rows (all_rows ss)) (AllDiffer-append n (paths_of s.rows) (paths_of (all_rows ss)) are.0.differ rest.differ here later);
      placed = rw (map-append (λ (row : KeptRow S O G). row.path) s.rows (all_rows ss)) (All-append (λ (q : List ℕ). n ≤ shard_number q) (paths_of s.rows) (paths_of (all_rows ss)) at_least from_here);
    }

-- no two rows of a store have the same path
pub IsStore-differ : {S O G : Type 0} (fits : KeptRow S O G → Type 0) (shards : List (ShardView S O G)) → IsStore fits shards → AllDiffer (paths_of (all_rows shards))
IsStore-differ fits shards store = (apart-shards fits 0 shards store.each).differ

fitting_rows : {S O G : Type 0} (fits : KeptRow S O G → Type 0) (n : ℕ) (shards : List (ShardView S O G)) → AreShards fits n shards → All (λ row. fits row) (all_rows shards)
fitting_rows fits n [] are = All-nil _
fitting_rows {S = S} {O = O} {G = G} fits n (s ∷ ss) are =
    All-append (λ (row : KeptRow S O G). fits row) s.rows (all_rows ss) are.0.each_row (fitting_rows fits (suc n) ss are.1)

-- every row of a store keeps what a row keeps
pub IsStore-rows : {S O G : Type 0} (fits : KeptRow S O G → Type 0) (shards : List (ShardView S O G)) → IsStore fits shards → All (λ row. fits row) (all_rows shards)
IsStore-rows fits shards store = fitting_rows fits 0 shards store.each

-- ## A search

module _ {S O G : Type 0} (fits : KeptRow S O G → Type 0) (path : List ℕ) where
  lacks_after : (n : ℕ) (shards : List (ShardView S O G)) → AreShards fits n shards → shard_number path < n → LacksPath shards path
  lacks_after n [] are below = All-nil _
  lacks_after n (s ∷ ss) are below =
      All-append (λ (row : KeptRow S O G). row.path ≢ path) s.rows (all_rows ss)
      (All-weaker (λ (row : KeptRow S O G). shard_number row.path ≡ n) (λ row. row.path ≢ path) (λ row number e. let same : shard_number row.path ≡ shard_number path = ap shard_number e in absurd (omega arith)) s.rows are.0.placed)
      (lacks_after (suc n) ss are.1 (omega arith))

  -- no row has a path that the rows of its shard lack
  pub lacks_at : (n k : ℕ) (shards : List (ShardView S O G)) (shard : ShardView S O G) → AreShards fits n shards → shard_number path ≡ n + k → k < length shards → shard ≡ get_or shards k shard
      → All (λ row. row.path ≢ path) shard.rows → LacksPath shards path
  lacks_at n k [] shard are number inside at lacks = All-nil _
  lacks_at n zero (s ∷ ss) shard are number inside at lacks =
      All-append (λ (row : KeptRow S O G). row.path ≢ path) s.rows (all_rows ss) (subst (λ z. All (λ (row : KeptRow S O G). row.path ≢ path) z.rows) at lacks) (lacks_after (suc n) ss are.1 (omega arith))
  lacks_at n (suc k) (s ∷ ss) shard are number inside at lacks =
      All-append (λ (row : KeptRow S O G). row.path ≢ path) s.rows (all_rows ss)
      (All-weaker (λ (row : KeptRow S O G). shard_number row.path ≡ n) (λ row. row.path ≢ path) (λ row here e. let same : shard_number row.path ≡ shard_number path = ap shard_number e in absurd (omega arith)) s.rows are.0.placed)
      (lacks_at (suc n) k ss shard are.1 (omega arith) (omega arith) at lacks)

-- a row of a shard is one of the store's
pub contains_at : {S O G : Type 0} (k : ℕ) (shards : List (ShardView S O G)) (shard : ShardView S O G) (row : KeptRow S O G) → k < length shards → shard ≡ get_or shards k shard → Contains shard.rows row → Contains (all_rows shards) row
contains_at k [] shard row inside at h = absurd (omega arith)
contains_at zero (s ∷ ss) shard row inside at h = Contains-append_left s.rows (all_rows ss) row (subst (λ z. Contains z.rows row) at h)
contains_at (suc k) (s ∷ ss) shard row inside at h = Contains-append_right s.rows (all_rows ss) row (contains_at k ss shard row (omega arith) at h)
