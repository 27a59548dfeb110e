-- Each path that was asked for has its row, in the shard that was asked.
use Rattle.std.proofs.Common.{◌≡◌, ◌≢◌, ◌⊎◌, inl, inr, ℕ, zero, suc, Bool, true, false, List, [], ◌∷◌, ◌++◌, map, length, All, Contains, get_or, Some, None, refl, sym, ap, ◌∙◌, subst, ⊎_elim, arith}
use Rattle.std.proofs.lemmas.Slice.Eq.{bytes_eq-Decides}
use Rattle.std.proofs.lemmas.List.{map-append}
use Rattle.std.proofs.lemmas.List.Elements.{All-nil, All-cons, All-head, All-tail, All-weaker, All-map, All-append, All-contains, All-contains_itself, Contains-append_left, Contains-append_right}
use Rattle.scan_model.specs.declared.Outcome.{Outcome}
use Rattle.scan_model.specs.Files.{Content}
use Rattle.scan_model.specs.TokenTests.{same}
use Rattle.shard_cache.specs.declared.kept_row.KeptRow.{KeptRow}
use Rattle.shard_cache.specs.Rows.{ShardView, all_rows, all_asked, paths_of, AllDiffer, row_content}
use Rattle.shard_cache.specs.StoreMap.{file_map, IsGivenHere, AreGiven, HaveRows}
use Rattle.shard_cache.proofs.RowLemmas.{All-parts}
use Rattle.workers.proofs.PlaceLemmas.{here, later}

-- ## Rows of a file map

-- a path that the map has is a row's
pub file_map-row : {S O G : Type 0} (outcome : G → Outcome) (bytes : G → List ℕ) (rows : List (KeptRow S O G)) (path : List ℕ) (content : Content (List ℕ)) → file_map outcome bytes rows path ≡ Some content → Contains (paths_of rows) path
file_map-row outcome bytes [] path content at = cc
file_map-row {S} {O} {G} outcome bytes (row ∷ rows) path content at = by_test (file_map-row outcome bytes rows path content) (same row.path path) refl
  where
    by_test : (file_map outcome bytes rows path ≡ Some content → Contains (paths_of rows) path) → (b : Bool) → same row.path path ≡ b → Contains (paths_of (row ∷ rows)) path
    by_test rest true e = subst (λ z. Contains (paths_of (row ∷ rows)) z) ((bytes_eq-Decides row.path path).0 e) (here row.path (paths_of rows))
    by_test rest false e =
        let below : file_map outcome bytes rows path ≡ Some content = rw e at at in
        later row.path path (paths_of rows) (rest below)

-- ## Rows of a store

-- what is in both halves of a list that has nothing twice
differ_apart : (ps qs : List (List ℕ)) (path : List ℕ) → AllDiffer (ps ++ qs) → Contains ps path → Contains qs path → ⊥
differ_apart [] qs path differ (k, inside, at) has = absurd (omega arith)
differ_apart (p ∷ ps) qs path differ (zero, inside, at) has =
    let others : All (λ q. p ≢ q) qs = (All-parts (λ q. p ≢ q) ps qs differ.0).1 in
    All-contains (λ q. p ≢ q) qs path others has at
differ_apart (p ∷ ps) qs path differ (suc k, inside, at) has = differ_apart ps qs path differ.1 (k, omega arith, at) has

differ_rest : (ps qs : List (List ℕ)) → AllDiffer (ps ++ qs) → AllDiffer qs
differ_rest [] qs differ = differ
differ_rest (p ∷ ps) qs differ = differ_rest ps qs differ.1

contains_parts : (ps qs : List (List ℕ)) (path : List ℕ) → Contains (ps ++ qs) path → Contains ps path ⊎ Contains qs path
contains_parts [] qs path has = inr has
contains_parts (p ∷ ps) qs path (zero, inside, at) = inl (subst (λ z. Contains (p ∷ ps) z) at (here p ps))
contains_parts (p ∷ ps) qs path (suc k, inside, at) = ⊎_elim (λ (h : Contains ps path). inl (later p path ps h)) (λ (h : Contains qs path). inr h) (contains_parts ps qs path (k, omega arith, at))

-- each element of a list stands in it
All-with : {X : Type 0} (P : X → Type 0) (xs : List X) → All P xs → All (λ x. P x × Contains xs x) xs
All-with P xs h = All-weaker (Contains xs) (λ x. P x × Contains xs x) (λ x c. (All-contains P xs x h c, c)) xs (All-contains_itself xs)

module _ {S O G : Type 0} (gp : G → List ℕ) (go : G → ℕ) where
  -- a row's path was asked for
  row_asked : (ss : List (ShardView S O G)) (path : List ℕ) → AreGiven gp go ss → Contains (paths_of (all_rows ss)) path → Contains (all_asked ss) path
  row_asked [] path given (k, inside, at) = absurd (omega arith)
  row_asked (s ∷ ss) path given has =
      ⊎_elim
      (λ (h : Contains (paths_of s.rows) path). Contains-append_left s.asked (all_asked ss) path (All-contains (λ p. Contains s.asked p) (paths_of s.rows) path (All-map (λ p. Contains s.asked p) (λ (row : KeptRow S O G). row.path) s.rows given.0.asked) h))
      (λ (h : Contains (paths_of (all_rows ss)) path). Contains-append_right s.asked (all_asked ss) path (row_asked ss path given.1 h))
      (contains_parts (paths_of s.rows) (paths_of (all_rows ss)) path (subst (λ z. Contains z path) (map-append (λ (row : KeptRow S O G). row.path) s.rows (all_rows ss)) has))

  -- where each path that was asked for has a row anywhere, it has it in the shard that was asked
  pub HaveRows-all : (ss : List (ShardView S O G)) → AllDiffer (all_asked ss) → AreGiven gp go ss → All (λ path. Contains (paths_of (all_rows ss)) path) (all_asked ss) → HaveRows ss
  HaveRows-all [] differ given rows = tt
  HaveRows-all (s ∷ ss) differ given rows =
      let Anywhere : List ℕ → Type 0 = λ path. Contains (paths_of (all_rows (s ∷ ss))) path in
      let parts = All-parts Anywhere s.asked (all_asked ss) rows in
      let split : (path : List ℕ) → Anywhere path → Contains (paths_of s.rows) path ⊎ Contains (paths_of (all_rows ss)) path =
      (λ path has. contains_parts (paths_of s.rows) (paths_of (all_rows ss)) path (subst (λ z. Contains z path) (map-append (λ (row : KeptRow S O G). row.path) s.rows (all_rows ss)) has)) in
      let first : (path : List ℕ) → Anywhere path × Contains s.asked path → Contains (paths_of s.rows) path =
      (λ path h. ⊎_elim (λ (l : Contains (paths_of s.rows) path). l)
      (λ (r : Contains (paths_of (all_rows ss)) path). absurd (differ_apart s.asked (all_asked ss) path differ h.1 (row_asked ss path given.1 r)))
      (split path h.0)) in
      let rest : (path : List ℕ) → Anywhere path × Contains (all_asked ss) path → Contains (paths_of (all_rows ss)) path =
      (λ path h. ⊎_elim
      (λ (l : Contains (paths_of s.rows) path). absurd (differ_apart s.asked (all_asked ss) path differ (All-contains (λ p. Contains s.asked p) (paths_of s.rows) path (All-map (λ p. Contains s.asked p) (λ (row : KeptRow S O G). row.path) s.rows given.0.asked) l) h.1))
      (λ (r : Contains (paths_of (all_rows ss)) path). r)
      (split path h.0)) in (
        All-weaker (λ path. Anywhere path × Contains s.asked path) (λ path. Contains (paths_of s.rows) path) first s.asked (All-with Anywhere s.asked parts.0),
        HaveRows-all ss (differ_rest s.asked (all_asked ss) differ) given.1
            (All-weaker (λ path. Anywhere path × Contains (all_asked ss) path) (λ path. Contains (paths_of (all_rows ss)) path) rest (all_asked ss) (All-with Anywhere (all_asked ss) parts.1)),
      )
