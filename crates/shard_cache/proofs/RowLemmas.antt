-- What a change of one shard keeps.
use Rattle.std.proofs.Common.{◌≡◌, ◌≢◌, ◌<◌, ◌+◌, ◌⊎◌, ℕ, zero, suc, List, [], ◌∷◌, ◌++◌, map, length, All, get_or, reverse, refl, sym, ⊎_elim, ◌∙◌, ap, inl, inr, arith, OnOk, IfErr, Result, Ok, Err}
use Rattle.std.proofs.Math.ListN.{set, length-set}
use Rattle.std.proofs.lemmas.List.Elements.{All-nil, All-cons, All-head, All-tail, All-push, All-map}
use Rattle.std.proofs.lemmas.List.{map-append, length-map, append-nil, nil_from_length}
use Rattle.shard_cache.specs.declared.kept_row.KeptRow.{KeptRow}
use Rattle.shard_cache.specs.Rows.{ShardView, fresh_shard, IsShard, AreShards, IsStore, LacksPath, AllDiffer, paths_of, shard_number, change_at, kept_also, all_rows, all_asked, all_origins}

-- a fact of each of two lists, one after the other
pub All-parts : {X : Type 0} (P : X → Type 0) (xs ys : List X) → All P (xs ++ ys) → All P xs × All P ys
All-parts P [] ys h = (All-nil P, h)
All-parts P (x ∷ xs) ys h =
    let rest : All P xs × All P ys = All-parts P xs ys (All-tail P x (xs ++ ys) h) in
    (All-cons P x xs (All-head P x (xs ++ ys) h) rest.0, rest.1)

-- a write at an index is a change there
pub set-change_at : {A : Type 0} (f : A → A) (xs : List A) (k : ℕ) (old y : A) → old ≡ get_or xs k old → y ≡ f old → set xs k y ≡ change_at f k xs
set-change_at f [] k old y o e = refl
set-change_at f (x ∷ xs) zero old y o e = ap (λ z. z ∷ xs) (e ∙ ap f o)
set-change_at f (x ∷ xs) (suc k) old y o e = ap (λ zs. x ∷ zs) (set-change_at f xs k old y o e)

-- a change of one shard, which keeps what that shard keeps, where no row has the path
pub set-shard : {S O G : Type 0} (fits : KeptRow S O G → Type 0) (path : List ℕ) (n k m : ℕ) (shards : List (ShardView S O G)) (old y : ShardView S O G) → m ≡ n + k → k < length shards → old ≡ get_or shards k old → AreShards fits n shards → LacksPath shards path → (IsShard fits m old → All (λ row. row.path ≢ path) old.rows → IsShard fits m y) → AreShards fits n (set shards k y)
set-shard fits path n k m [] old y e lt o a l keep = tt
set-shard {S = S} {O = O} {G = G} fits path n zero m (s ∷ ss) old y e lt o a l keep =
    let lacked = All-parts (λ (row : KeptRow S O G). row.path ≢ path) s.rows (all_rows ss) l in
    let at_n : m ≡ n = omega arith in
    let was : IsShard fits m old = rw (at_n, o) a.0 in
    let lacks : All (λ row. row.path ≢ path) old.rows = rw o lacked.0 in
    let now : IsShard fits n y = rw at_n at (keep was lacks) in
    (now, a.1)
set-shard {S = S} {O = O} {G = G} fits path n (suc k) m (s ∷ ss) old y e lt o a l keep =
    let lacked = All-parts (λ (row : KeptRow S O G). row.path ≢ path) s.rows (all_rows ss) l in
    let at_next : m ≡ suc n + k = omega arith in
    let inside : k < length ss = omega arith in
    (a.0, set-shard fits path (suc n) k m ss old y at_next inside o a.1 lacked.1 keep)

-- one more that is among none
pub AllDiffer-push : (ps : List (List ℕ)) (p : List ℕ) → AllDiffer ps → All (λ q. q ≢ p) ps → AllDiffer (ps ++ p ∷ [])
AllDiffer-push [] p d l = (All-nil _, tt)
AllDiffer-push (q ∷ ps) p d l = (All-push (λ r. q ≢ r) ps p d.0 (All-head (λ r. r ≢ p) q ps l), AllDiffer-push ps p d.1 (All-tail (λ r. r ≢ p) q ps l))

-- a shard with one row more
pub IsShard-kept : {S O G : Type 0} (fits : KeptRow S O G → Type 0) (m : ℕ) (row : KeptRow S O G) (shard : ShardView S O G) → shard_number row.path ≡ m → fits row → IsShard fits m shard → All (λ other. other.path ≢ row.path) shard.rows → IsShard fits m (kept_also row shard)
IsShard-kept fits m row shard number fitting s lacks = record {
  placed = All-push (λ r. shard_number r.path ≡ m) shard.rows row s.placed number;
  each_row = All-push (λ r. fits r) shard.rows row s.each_row fitting;
  differ = rw (map-append (λ r. r.path) shard.rows (row ∷ [])) (AllDiffer-push (paths_of shard.rows) row.path s.differ (All-map (λ q. q ≢ row.path) (λ r. r.path) shard.rows lacks));
}

-- a shard whose rows stay
pub IsShard-same_rows : {S O G : Type 0} (fits : KeptRow S O G → Type 0) (m : ℕ) (old y : ShardView S O G) → y.rows ≡ old.rows → IsShard fits m old → IsShard fits m y
IsShard-same_rows fits m old y e s = record {
  placed = rw e s.placed;
  each_row = rw e s.each_row;
  differ = rw e s.differ;
}

-- an add either added the row or left the shard
pub added_or_not : {S O G : Type 0} (r : Result (Unit {0}) (KeptRow S O G)) (row : KeptRow S O G) (old new : ShardView S O G) → OnOk r (new ≡ kept_also row old) → IfErr r (λ back. (back ≡ row) × (new ≡ old)) → (new ≡ kept_also row old) ⊎ (new ≡ old)
added_or_not (Ok x) row old new ok err = inl ok
added_or_not (Err back) row old new ok err = inr err.1

-- fresh shards have no row
fresh_rows : {S O G : Type 0} (asked : S → List (List ℕ)) (origin : S → ℕ) (sources : List S) → all_rows {S = S} {O = O} {G = G} (map (fresh_shard asked origin) sources) ≡ []
fresh_rows asked origin [] = refl
fresh_rows asked origin (s ∷ ss) = fresh_rows asked origin ss

fresh_asked : {S : Type 0} (O G : Type 0) (asked : S → List (List ℕ)) (origin : S → ℕ) (sources : List S) → All (λ source. asked source ≡ []) sources → all_asked {S = S} {O = O} {G = G} (map (fresh_shard asked origin) sources) ≡ []
fresh_asked O G asked origin [] unasked = refl
fresh_asked {S = S} O G asked origin (s ∷ ss) unasked =
    let P : S → Type 0 = λ source. asked source ≡ [] in
    rw (All-head P s ss unasked) (fresh_asked O G asked origin ss (All-tail P s ss unasked))

fresh_origins : {S : Type 0} (O G : Type 0) (asked : S → List (List ℕ)) (origin : S → ℕ) (sources : List S) → all_origins {S = S} {O = O} {G = G} (map (fresh_shard asked origin) sources) ≡ map origin sources
fresh_origins O G asked origin [] = refl
fresh_origins O G asked origin (s ∷ ss) = ap (λ xs. origin s ∷ xs) (fresh_origins O G asked origin ss)

fresh_shards : {S G : Type 0} (O : Type 0) (asked : S → List (List ℕ)) (origin : S → ℕ) (fits : KeptRow S O G → Type 0) (n : ℕ) (sources : List S) → AreShards {S = S} {O = O} {G = G} fits n (map (fresh_shard asked origin) sources)
fresh_shards O asked origin fits n [] = tt
fresh_shards O asked origin fits n (s ∷ ss) =
    (record { placed = All-nil _; each_row = All-nil _; differ = tt }, fresh_shards O asked origin fits (suc n) ss)

-- the shards are those of these sources, which have asked nothing
pub record AreFresh {S O G : Type 0} (fits : KeptRow S O G → Type 0) (origin : S → ℕ) (sources : List S) (shards : List (ShardView S O G)) : Type 0 where
  pub no_row : all_rows shards ≡ []
  pub nothing_asked : all_asked shards ≡ []
  pub origins : all_origins shards ≡ map origin sources
  pub valid : IsStore fits shards

-- the store that is made, where no source is left
pub made-all : {S O G : Type 0} (asked : S → List (List ℕ)) (origin : S → ℕ) (fits : KeptRow S O G → Type 0) (sources left : List S) (shards : List (ShardView S O G)) → length sources ≡ 16 → All (λ source. asked source ≡ []) sources → shards ++ map (fresh_shard asked origin) (reverse left) ≡ map (fresh_shard asked origin) sources → length left ≡ 0 → AreFresh fits origin sources shards
made-all {O = O} {G = G} asked origin fits sources left shards sixteen unasked made none =
    let nothing : left ≡ [] = nil_from_length left none in
    let all : shards ≡ map (fresh_shard asked origin) sources = sym (append-nil shards) ∙ rw nothing at made in
    record {
      no_row = rw all (fresh_rows asked origin sources);
      nothing_asked = rw all (fresh_asked O G asked origin sources unasked);
      origins = rw all (fresh_origins O G asked origin sources);
      valid = rw all (record {
        sixteen = length-map sources (fresh_shard asked origin) ∙ sixteen;
        each = fresh_shards O asked origin fits 0 sources;
      });
    }

-- what a store keeps after an ask of one shard's source
pub IsStore-asked : {S O G : Type 0} (fits : KeptRow S O G → Type 0) (path : List ℕ) (k : ℕ) (shards : List (ShardView S O G)) (old y : ShardView S O G) → IsStore fits shards → k < 16 → old ≡ get_or shards k old → LacksPath shards path → y.rows ≡ old.rows → IsStore fits (set shards k y)
IsStore-asked fits path k shards old y store bound at lacks rows = record {
  sixteen = length-set shards k y ∙ store.sixteen;
  each =
      let inside : k < length shards = rw store.sixteen bound in
      set-shard fits path 0 k k shards old y (omega arith) inside at store.each lacks (λ was _. IsShard-same_rows fits k old y rows was);
}

-- what a store keeps where a row was added to its path's shard, or nothing
pub IsStore-added : {S O G : Type 0} (fits : KeptRow S O G → Type 0) (row : KeptRow S O G) (k : ℕ) (shards : List (ShardView S O G)) (old y : ShardView S O G) (r : Result (Unit {0}) (KeptRow S O G)) → IsStore fits shards → k < 16 → old ≡ get_or shards k old → LacksPath shards row.path → shard_number row.path ≡ k → fits row → OnOk r (y ≡ kept_also row old) → IfErr r (λ back. (back ≡ row) × (y ≡ old)) → IsStore fits (set shards k y)
IsStore-added fits row k shards old y r store bound at lacks number fitting ok err = record {
  sixteen = length-set shards k y ∙ store.sixteen;
  each =
      let inside : k < length shards = rw store.sixteen bound in
      set-shard fits row.path 0 k k shards old y (omega arith) inside at store.each lacks
      (λ was lacked. ⊎_elim
      (λ added. rw added (IsShard-kept fits k row old number fitting was lacked))
      (λ same. rw same was)
      (added_or_not r row old y ok err));
}
