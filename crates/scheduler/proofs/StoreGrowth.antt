-- What a run over a store keeps of it: the rows, one map, and that each path that was asked has its row.
use Rattle.std.proofs.Common.{◌≡◌, ◌≢◌, ◌⊎◌, inl, inr, ◌<◌, ◌≤◌, ◌+◌, ◌-◌, ℕ, zero, suc, ◌%◌, List, [], ◌∷◌, ◌++◌, length, map, refl, ap, sym, ◌∙◌, subst, arith}
use Rattle.std.specs.Prelude.{All, Contains, sum, Some, slice_get, slice_index_or}
use Rattle.std.proofs.lemmas.List.{map-append}
use Rattle.std.proofs.lemmas.List.Elements.{All-nil, All-cons, All-head, All-tail, All-append, All-map, All-push, All-weaker, All-contains, All-contains_itself, Contains-append_left, Contains-append_right, Contains-push}
use Rattle.shard_cache.specs.declared.kept_row.KeptRow.{KeptRow}
use Rattle.shard_cache.specs.Rows.{ShardView, all_rows, all_asked, all_origins, rows_at, paths_of, AllDiffer, IsStore, change_at, asked_also, kept_also, shard_number, LacksPath}
use Rattle.shard_cache.specs.StoreMap.{AreGiven, IsOneMap, HaveRows}
use Rattle.shard_cache.specs.StoreRun.{ask_all, add_all, IsGivenRow, IsExtended}
use Rattle.shard_cache.proofs.RowLemmas.{All-parts}
use Rattle.shard_cache.proofs.StoreLemmas.{all_rows-asked, all_origins-asked, all_origins-kept, IsStore-differ, All-kept}
use Rattle.shard_cache.proofs.Inserting.{Inserted, All-insert, AllDiffer-inserted, flat_map-change_at}
use Rattle.shard_cache.proofs.MapLemmas.{given_asked, length-change_at}

-- ## Rows and asked paths

module _ {S O G : Type 0} where
  -- what holds of the rows that are added holds of all rows
  pub rows_added : (P : KeptRow S O G → Type 0) (rows : List (KeptRow S O G)) (ss : List (ShardView S O G)) → All P rows → All P (all_rows ss) → All P (all_rows (add_all rows ss))
  rows_added P [] ss h k = k
  rows_added P (row ∷ rows) ss h k =
      rows_added P rows (change_at (kept_also row) (shard_number row.path) ss) (All-tail P row rows h) (All-kept P row (shard_number row.path) ss (All-head P row rows h) k)

  pub rows_asked : (asks : List (List ℕ)) (ss : List (ShardView S O G)) → all_rows (ask_all asks ss) ≡ all_rows ss
  rows_asked [] ss = refl
  rows_asked (path ∷ asks) ss = rows_asked asks (change_at (asked_also path) (shard_number path) ss) ∙ all_rows-asked path (shard_number path) ss

  -- what holds of the paths that are asked holds of all that were asked
  one_asked : (P : List ℕ → Type 0) (path : List ℕ) (k : ℕ) (ss : List (ShardView S O G)) → P path → All P (all_asked ss) → All P (all_asked (change_at (asked_also path) k ss))
  one_asked P path k [] holds h = h
  one_asked P path zero (s ∷ ss) holds h =
      let parts = All-parts P s.asked (all_asked ss) h in
      All-append P (s.asked ++ path ∷ []) (all_asked ss) (All-append P s.asked (path ∷ []) parts.0 (All-cons P path [] holds (All-nil P))) parts.1
  one_asked P path (suc k) (s ∷ ss) holds h =
      let parts = All-parts P s.asked (all_asked ss) h in
      All-append P s.asked (all_asked (change_at (asked_also path) k ss)) parts.0 (one_asked P path k ss holds parts.1)

  pub all_asked_all : (P : List ℕ → Type 0) (asks : List (List ℕ)) (ss : List (ShardView S O G)) → All P asks → All P (all_asked ss) → All P (all_asked (ask_all asks ss))
  all_asked_all P [] ss h k = k
  all_asked_all P (path ∷ asks) ss h k =
      all_asked_all P asks (change_at (asked_also path) (shard_number path) ss) (All-tail P path asks h) (one_asked P path (shard_number path) ss (All-head P path asks h) k)

  same_all_asked : (row : KeptRow S O G) (k : ℕ) (ss : List (ShardView S O G)) → all_asked (change_at (kept_also row) k ss) ≡ all_asked ss
  same_all_asked row k [] = refl
  same_all_asked row zero (s ∷ ss) = refl
  same_all_asked row (suc k) (s ∷ ss) = ap (λ z. s.asked ++ z) (same_all_asked row k ss)

  pub asked_added : (rows : List (KeptRow S O G)) (ss : List (ShardView S O G)) → all_asked (add_all rows ss) ≡ all_asked ss
  asked_added [] ss = refl
  asked_added (row ∷ rows) ss = asked_added rows (change_at (kept_also row) (shard_number row.path) ss) ∙ same_all_asked row (shard_number row.path) ss

  length_asked : (asks : List (List ℕ)) (ss : List (ShardView S O G)) → length (ask_all asks ss) ≡ length ss
  length_asked [] ss = refl
  length_asked (path ∷ asks) ss = length_asked asks (change_at (asked_also path) (shard_number path) ss) ∙ length-change_at (asked_also path) (shard_number path) ss

  length_added : (rows : List (KeptRow S O G)) (ss : List (ShardView S O G)) → length (add_all rows ss) ≡ length ss
  length_added [] ss = refl
  length_added (row ∷ rows) ss = length_added rows (change_at (kept_also row) (shard_number row.path) ss) ∙ length-change_at (kept_also row) (shard_number row.path) ss

  module _ (gp : G → List ℕ) (go : G → ℕ) (old new : List (ShardView S O G)) (h : IsExtended gp go old new) where
    -- a store has as many shards then as before
    pub extended_length : length new ≡ length old
    extended_length = ap (λ (z : List (ShardView S O G)). length z) h.is ∙ (length_added h.rows (ask_all h.asks old) ∙ length_asked h.asks old)

    -- a row of a path that had none is one of those that were added
    pub extended_rows : All (λ (row : KeptRow S O G). LacksPath old row.path → Contains h.rows row) (all_rows new)
    extended_rows =
        let P : KeptRow S O G → Type 0 = λ row. LacksPath old row.path → Contains h.rows row in
        let added : All P h.rows = All-weaker (λ row. Contains h.rows row) P (λ row c _. c) h.rows (All-contains_itself h.rows) in
        let before : All P (all_rows old) =
        All-weaker (λ row. Contains (all_rows old) row) P (λ row c lacks. absurd (All-contains (λ (r : KeptRow S O G). r.path ≢ row.path) (all_rows old) row lacks c refl)) (all_rows old) (All-contains_itself (all_rows old)) in
        subst (λ z. All P (all_rows z)) (sym h.is) (rows_added P h.rows (ask_all h.asks old) added (subst (λ z. All P z) (sym (rows_asked h.asks old)) before))

-- ## No path is asked twice

others_stay : (path other : List ℕ) (xs ys : List (List ℕ)) → Inserted path xs ys → path ≢ other → All (λ q. q ≢ other) xs → All (λ q. q ≢ other) ys
others_stay path other xs ys i differ h =
    subst (λ z. All (λ q. q ≢ other) z) (sym i.now) (All-insert (λ q. q ≢ other) i.before i.after path (subst (λ z. All (λ q. q ≢ other) z) i.was h) differ)

each_stays : (path : List ℕ) (xs ys : List (List ℕ)) → Inserted path xs ys → (paths : List (List ℕ)) → All (λ other. path ≢ other) paths → All (λ other. All (λ q. q ≢ other) xs) paths →
    All (λ other. All (λ q. q ≢ other) ys) paths
each_stays path xs ys i [] differ h = All-nil _
each_stays path xs ys i (p ∷ paths) differ h =
    All-cons (λ other. All (λ q. q ≢ other) ys) p paths
    (others_stay path p xs ys i (All-head (λ other. path ≢ other) p paths differ) (All-head (λ other. All (λ q. q ≢ other) xs) p paths h))
    (each_stays path xs ys i paths (All-tail (λ other. path ≢ other) p paths differ) (All-tail (λ other. All (λ q. q ≢ other) xs) p paths h))

module _ {S O G : Type 0} where
  asks_differ : (paths : List (List ℕ)) (shards : List (ShardView S O G)) → length shards ≡ 16 → AllDiffer (all_asked shards) → AllDiffer paths →
      All (λ path. All (λ q. q ≢ path) (all_asked shards)) paths → AllDiffer (all_asked (ask_all paths shards))
  asks_differ [] shards sixteen differ once others = differ
  asks_differ (path ∷ paths) shards sixteen differ once others =
      let k = shard_number path in
      let small : sum path % 16 < 16 = omega arith in
      let inserted : Inserted path (all_asked shards) (all_asked (change_at (asked_also path) k shards)) =
      flat_map-change_at (λ (s : ShardView S O G). s.asked) (asked_also path) path k shards (λ s. refl) (subst (λ n. k < n) (sym sixteen) small) in
      asks_differ paths (change_at (asked_also path) k shards) (length-change_at (asked_also path) k shards ∙ sixteen)
      (AllDiffer-inserted (all_asked shards) (all_asked (change_at (asked_also path) k shards)) path inserted differ (All-head (λ path. All (λ q. q ≢ path) (all_asked shards)) path paths others)) once.1
      (each_stays path (all_asked shards) (all_asked (change_at (asked_also path) k shards)) inserted paths once.0 (All-tail (λ path. All (λ q. q ≢ path) (all_asked shards)) path paths others))

  have_all : (ss : List (ShardView S O G)) → HaveRows ss → All (λ path. Contains (paths_of (all_rows ss)) path) (all_asked ss)
  have_all [] have = All-nil _
  have_all (s ∷ ss) have =
      let P : List ℕ → Type 0 = λ path. Contains (paths_of (all_rows (s ∷ ss))) path in
      let parts = map-append (λ (row : KeptRow S O G). row.path) s.rows (all_rows ss) in
      All-append P s.asked (all_asked ss)
      (All-weaker (λ path. Contains (paths_of s.rows) path) P (λ path c. subst (λ z. Contains z path) (sym parts) (Contains-append_left (paths_of s.rows) (paths_of (all_rows ss)) path c)) s.asked have.0)
      (All-weaker (λ path. Contains (paths_of (all_rows ss)) path) P (λ path c. subst (λ z. Contains z path) (sym parts) (Contains-append_right (paths_of s.rows) (paths_of (all_rows ss)) path c)) (all_asked ss) (have_all ss have.1))

  -- a path without a row wasn't asked, where each that was asked has its row
  not_asked : (ss : List (ShardView S O G)) (path : List ℕ) → HaveRows ss → LacksPath ss path → All (λ q. q ≢ path) (all_asked ss)
  not_asked ss path have lacks =
      let differ : All (λ q. q ≢ path) (paths_of (all_rows ss)) = All-map (λ (q : List ℕ). q ≢ path) (λ (row : KeptRow S O G). row.path) (all_rows ss) lacks in
      All-weaker (λ q. Contains (paths_of (all_rows ss)) q) (λ q. q ≢ path) (λ q c. All-contains (λ p. p ≢ path) (paths_of (all_rows ss)) q differ c) (all_asked ss) (have_all ss have)

-- ## One map

module _ {S O G : Type 0} where
  -- the paths that the source of the shard of this number was asked for
  abbrev asked_at : List (ShardView S O G) → ℕ → List (List ℕ)
  asked_at shards k = slice_index_or (map (λ s. s.asked) shards) k []

  same_asked : (row : KeptRow S O G) (k : ℕ) (ss : List (ShardView S O G)) → map (λ (s : ShardView S O G). s.asked) (change_at (kept_also row) k ss) ≡ map (λ s. s.asked) ss
  same_asked row k [] = refl
  same_asked row zero (s ∷ ss) = refl
  same_asked row (suc k) (s ∷ ss) = ap (λ z. s.asked ∷ z) (same_asked row k ss)

  asked_grow : (path : List ℕ) (k : ℕ) (ss : List (ShardView S O G)) (j : ℕ) (p : List ℕ) → Contains (asked_at ss j) p → Contains (asked_at (change_at (asked_also path) k ss) j) p
  asked_grow path k [] j p h = h
  asked_grow path zero (s ∷ ss) zero p h = Contains-append_left s.asked (path ∷ []) p h
  asked_grow path zero (s ∷ ss) (suc j) p h = h
  asked_grow path (suc k) (s ∷ ss) zero p h = h
  asked_grow path (suc k) (s ∷ ss) (suc j) p h = asked_grow path k ss j p h

  asked_here : (path : List ℕ) (k : ℕ) (ss : List (ShardView S O G)) → k < length ss → Contains (asked_at (change_at (asked_also path) k ss) k) path
  asked_here path k [] inside = absurd (omega arith)
  asked_here path zero (s ∷ ss) inside = Contains-push s.asked path
  asked_here path (suc k) (s ∷ ss) inside = asked_here path k ss (omega arith)

  asked_on : (paths : List (List ℕ)) (ss : List (ShardView S O G)) (j : ℕ) (p : List ℕ) → Contains (asked_at ss j) p → Contains (asked_at (ask_all paths ss) j) p
  asked_on [] ss j p h = h
  asked_on (path ∷ paths) ss j p h = asked_on paths (change_at (asked_also path) (shard_number path) ss) j p (asked_grow path (shard_number path) ss j p h)

  small : (path : List ℕ) (ss : List (ShardView S O G)) → length ss ≡ 16 → shard_number path < length ss
  small path ss sixteen = let below : sum path % 16 < 16 = omega arith in subst (λ n. sum path % 16 < n) (sym sixteen) below

  -- each path that was asked stands among what its shard's source was asked for
  asked_in : (paths : List (List ℕ)) (ss : List (ShardView S O G)) → length ss ≡ 16 → All (λ p. Contains (asked_at (ask_all paths ss) (shard_number p)) p) paths
  asked_in [] ss sixteen = All-nil _
  asked_in (path ∷ paths) ss sixteen =
      let k = shard_number path in
      let next = change_at (asked_also path) k ss in
      All-cons (λ p. Contains (asked_at (ask_all paths next) (shard_number p)) p) path paths
      (asked_on paths next k path (asked_here path k ss (small path ss sixteen)))
      (asked_in paths next (length-change_at (asked_also path) k ss ∙ sixteen))

  origins_on : (paths : List (List ℕ)) (ss : List (ShardView S O G)) → all_origins (ask_all paths ss) ≡ all_origins ss
  origins_on [] ss = refl
  origins_on (path ∷ paths) ss = origins_on paths (change_at (asked_also path) (shard_number path) ss) ∙ all_origins-asked path (shard_number path) ss

  module _ (gp : G → List ℕ) (go : G → ℕ) where
    given_on : (paths : List (List ℕ)) (ss : List (ShardView S O G)) → AreGiven gp go ss → AreGiven gp go (ask_all paths ss)
    given_on [] ss g = g
    given_on (path ∷ paths) ss g = given_on paths (change_at (asked_also path) (shard_number path) ss) (given_asked gp go path (shard_number path) ss g)

    given_one : (row : KeptRow S O G) (k : ℕ) (ss : List (ShardView S O G)) → Contains (asked_at ss k) row.path → gp row.given ≡ row.path → slice_get (all_origins ss) k ≡ Some (go row.given)
        → AreGiven gp go ss → AreGiven gp go (change_at (kept_also row) k ss)
    given_one row k [] asked given origin g = tt
    given_one row zero (s ∷ ss) asked given origin g =
        let from_here : go row.given ≡ s.origin = cc in (
          record {
            asked = All-push (λ (r : KeptRow S O G). Contains s.asked r.path) s.rows row g.0.asked asked;
            path = All-push (λ (r : KeptRow S O G). gp r.given ≡ r.path) s.rows row g.0.path given;
            origin = All-push (λ (r : KeptRow S O G). go r.given ≡ s.origin) s.rows row g.0.origin from_here;
          },
          g.1,
        )
    given_one row (suc k) (s ∷ ss) asked given origin g = (g.0, given_one row k ss asked given origin g.1)

    -- what a row needs to be added: its path was asked for at its shard, and it has what was given there
    abbrev MayAdd : List (ShardView S O G) → KeptRow S O G → Type 0
    MayAdd ss row = Contains (asked_at ss (shard_number row.path)) row.path × (gp row.given ≡ row.path) × (slice_get (all_origins ss) (shard_number row.path) ≡ Some (go row.given))

    may_add_on : (row : KeptRow S O G) (ss : List (ShardView S O G)) (r : KeptRow S O G) → MayAdd ss r → MayAdd (change_at (kept_also row) (shard_number row.path) ss) r
    may_add_on row ss r m = (
      subst (λ z. Contains (slice_index_or z (shard_number r.path) []) r.path) (sym (same_asked row (shard_number row.path) ss)) m.0,
      m.1,
      subst (λ z. slice_get z (shard_number r.path) ≡ Some (go r.given)) (sym (all_origins-kept row (shard_number row.path) ss)) m.2,
    )

    given_added : (rows : List (KeptRow S O G)) (ss : List (ShardView S O G)) → All (λ row. MayAdd ss row) rows → AreGiven gp go ss → AreGiven gp go (add_all rows ss)
    given_added [] ss may g = g
    given_added (row ∷ rows) ss may g =
        let k = shard_number row.path in
        let here = All-head (λ r. MayAdd ss r) row rows may in
        given_added rows (change_at (kept_also row) k ss)
        (All-weaker (λ r. MayAdd ss r) (λ r. MayAdd (change_at (kept_also row) k ss) r) (λ r m. may_add_on row ss r m) rows (All-tail (λ r. MayAdd ss r) row rows may))
        (given_one row k ss here.0 here.1 here.2 g)

    may_add : (asks : List (List ℕ)) (old : List (ShardView S O G)) → length old ≡ 16 → (rows : List (KeptRow S O G)) → All (λ row. Contains asks row.path) rows → All (λ row. IsGivenRow gp go old row) rows
        → All (λ row. MayAdd (ask_all asks old) row) rows
    may_add asks old sixteen [] asked given = All-nil _
    may_add asks old sixteen (row ∷ rows) asked given =
        let is_given = All-head (λ (r : KeptRow S O G). IsGivenRow gp go old r) row rows given in
        All-cons (λ r. MayAdd (ask_all asks old) r) row rows (
          All-contains (λ p. Contains (asked_at (ask_all asks old) (shard_number p)) p) asks row.path (asked_in asks old sixteen) (All-head (λ (r : KeptRow S O G). Contains asks r.path) row rows asked),
          is_given.path,
          subst (λ z. slice_get z (shard_number row.path) ≡ Some (go row.given)) (sym (origins_on asks old)) is_given.origin,
        )
        (may_add asks old sixteen rows (All-tail (λ (r : KeptRow S O G). Contains asks r.path) row rows asked) (All-tail (λ (r : KeptRow S O G). IsGivenRow gp go old r) row rows given))

    -- where each path that was asked had its row, the rows of one map and those that were added are one map
    pub extended_one_map : (fits : KeptRow S O G → Type 0) (old new : List (ShardView S O G)) → length old ≡ 16 → HaveRows old → IsOneMap gp go old → IsStore fits new → IsExtended gp go old new → IsOneMap gp go new
    extended_one_map fits old new sixteen have one valid h =
        let others : All (λ path. All (λ q. q ≢ path) (all_asked old)) h.asks =
        All-weaker (λ path. LacksPath old path) (λ path. All (λ q. q ≢ path) (all_asked old)) (λ path lacks. not_asked old path have lacks) h.asks h.fresh in
        let once = asks_differ h.asks old sixteen one.asked_once h.once others in
        record {
          asked_once = subst AllDiffer (sym (ap (λ (z : List (ShardView S O G)). all_asked z) h.is ∙ asked_added h.rows (ask_all h.asks old))) once;
          paths_differ = IsStore-differ fits new valid;
          given = subst (λ z. AreGiven gp go z) (sym h.is) (given_added h.rows (ask_all h.asks old) (may_add h.asks old sixteen h.rows h.asked h.given) (given_on h.asks old one.given));
        }

-- ## Each path that was asked has its row

module _ {S O G : Type 0} where
  rows_grow : (row : KeptRow S O G) (k : ℕ) (ss : List (ShardView S O G)) (j : ℕ) (p : List ℕ) → Contains (paths_of (rows_at ss j)) p → Contains (paths_of (rows_at (change_at (kept_also row) k ss) j)) p
  rows_grow row k [] j p h = h
  rows_grow row zero (s ∷ ss) zero p h = subst (λ z. Contains z p) (sym (map-append (λ (r : KeptRow S O G). r.path) s.rows (row ∷ []))) (Contains-append_left (paths_of s.rows) (row.path ∷ []) p h)
  rows_grow row zero (s ∷ ss) (suc j) p h = h
  rows_grow row (suc k) (s ∷ ss) zero p h = h
  rows_grow row (suc k) (s ∷ ss) (suc j) p h = rows_grow row k ss j p h

  row_here : (row : KeptRow S O G) (k : ℕ) (ss : List (ShardView S O G)) → k < length ss → Contains (paths_of (rows_at (change_at (kept_also row) k ss) k)) row.path
  row_here row k [] inside = absurd (omega arith)
  row_here row zero (s ∷ ss) inside = subst (λ z. Contains z row.path) (sym (map-append (λ (r : KeptRow S O G). r.path) s.rows (row ∷ []))) (Contains-push (paths_of s.rows) row.path)
  row_here row (suc k) (s ∷ ss) inside = row_here row k ss (omega arith)

  rows_on : (rows : List (KeptRow S O G)) (ss : List (ShardView S O G)) (j : ℕ) (p : List ℕ) → Contains (paths_of (rows_at ss j)) p → Contains (paths_of (rows_at (add_all rows ss) j)) p
  rows_on [] ss j p h = h
  rows_on (row ∷ rows) ss j p h = rows_on rows (change_at (kept_also row) (shard_number row.path) ss) j p (rows_grow row (shard_number row.path) ss j p h)

  rows_in : (rows : List (KeptRow S O G)) (ss : List (ShardView S O G)) → length ss ≡ 16 → All (λ p. Contains (paths_of (rows_at (add_all rows ss) (shard_number p))) p) (paths_of rows)
  rows_in [] ss sixteen = All-nil _
  rows_in (row ∷ rows) ss sixteen =
      let k = shard_number row.path in
      let next = change_at (kept_also row) k ss in
      All-cons (λ p. Contains (paths_of (rows_at (add_all rows next) (shard_number p))) p) row.path (paths_of rows)
      (rows_on rows next k row.path (row_here row k ss (small row.path ss sixteen)))
      (rows_in rows next (length-change_at (kept_also row) k ss ∙ sixteen))

module _ {S O G : Type 0} (P : List ℕ → Type 0) where
  -- the path has its row in this shard, or is of the shard of this number, and P holds of it
  abbrev HasRowOr : ℕ → ShardView S O G → List ℕ → Type 0
  HasRowOr n s path = Contains (paths_of s.rows) path ⊎ ((shard_number path ≡ n) × P path)

  -- each path that was asked of the shards from number n on
  abbrev HaveRowsOr : ℕ → List (ShardView S O G) → Type 0
  HaveRowsOr n [] = Unit {0}
  HaveRowsOr n (s ∷ ss) = All (λ p. HasRowOr n s p) s.asked × HaveRowsOr (suc n) ss

  had_rows : (n : ℕ) (ss : List (ShardView S O G)) → HaveRows ss → HaveRowsOr n ss
  had_rows n [] have = tt
  had_rows n (s ∷ ss) have = (All-weaker (λ p. Contains (paths_of s.rows) p) (λ p. HasRowOr n s p) (λ p c. inl c) s.asked have.0, had_rows (suc n) ss have.1)

  asked_one : (path : List ℕ) (n k : ℕ) (ss : List (ShardView S O G)) → shard_number path ≡ n + k → P path → HaveRowsOr n ss → HaveRowsOr n (change_at (asked_also path) k ss)
  asked_one path n k [] number holds a = tt
  asked_one path n zero (s ∷ ss) number holds a = (All-push (λ p. HasRowOr n s p) s.asked path a.0 (inr (omega arith, holds)), a.1)
  asked_one path n (suc k) (s ∷ ss) number holds a = (a.0, asked_one path (suc n) k ss (omega arith) holds a.1)

  asked_all : (paths : List (List ℕ)) (ss : List (ShardView S O G)) → All P paths → HaveRowsOr 0 ss → HaveRowsOr 0 (ask_all paths ss)
  asked_all [] ss holds a = a
  asked_all (path ∷ paths) ss holds a =
      asked_all paths (change_at (asked_also path) (shard_number path) ss) (All-tail P path paths holds) (asked_one path 0 (shard_number path) ss (omega arith) (All-head P path paths holds) a)

  more_rows : (row : KeptRow S O G) (n : ℕ) (s : ShardView S O G) (p : List ℕ) → HasRowOr n s p → HasRowOr n (kept_also row s) p
  more_rows row n s p (inl c) = inl (subst (λ z. Contains z p) (sym (map-append (λ (r : KeptRow S O G). r.path) s.rows (row ∷ []))) (Contains-append_left (paths_of s.rows) (row.path ∷ []) p c))
  more_rows row n s p (inr h) = inr h

  kept_one : (row : KeptRow S O G) (n k : ℕ) (ss : List (ShardView S O G)) → HaveRowsOr n ss → HaveRowsOr n (change_at (kept_also row) k ss)
  kept_one row n k [] a = tt
  kept_one row n zero (s ∷ ss) a = (All-weaker (λ p. HasRowOr n s p) (λ p. HasRowOr n (kept_also row s) p) (more_rows row n s) s.asked a.0, a.1)
  kept_one row n (suc k) (s ∷ ss) a = (a.0, kept_one row (suc n) k ss a.1)

  kept_all : (rows : List (KeptRow S O G)) (ss : List (ShardView S O G)) → HaveRowsOr 0 ss → HaveRowsOr 0 (add_all rows ss)
  kept_all [] ss a = a
  kept_all (row ∷ rows) ss a = kept_all rows (change_at (kept_also row) (shard_number row.path) ss) (kept_one row 0 (shard_number row.path) ss a)

  next_at : (s : ShardView S O G) (ss : List (ShardView S O G)) (m n : ℕ) → suc n ≤ m → rows_at (s ∷ ss) (m - n) ≡ rows_at ss (m - suc n)
  next_at s ss m n above = let e : m - n ≡ suc (m - suc n) = omega arith in ap (λ z. rows_at (s ∷ ss) z) e

  here_at : (s : ShardView S O G) (ss : List (ShardView S O G)) (m n : ℕ) → m ≡ n → rows_at (s ∷ ss) (m - n) ≡ s.rows
  here_at s ss m n is = let e : m - n ≡ zero = omega arith in ap (λ z. rows_at (s ∷ ss) z) e

  row_here_or : (n : ℕ) (s : ShardView S O G) (ss : List (ShardView S O G)) (p : List ℕ) → ((q : List ℕ) → P q → n ≤ shard_number q → Contains (paths_of (rows_at (s ∷ ss) (shard_number q - n))) q) → HasRowOr n s p → Contains (paths_of s.rows) p
  row_here_or n s ss p has (inl c) = c
  row_here_or n s ss p has (inr h) = let is = h.0 in subst (λ z. Contains (paths_of z) p) (here_at s ss (shard_number p) n is) (has p h.1 (omega arith))

  have_from : (n : ℕ) (ss : List (ShardView S O G)) → HaveRowsOr n ss → ((p : List ℕ) → P p → n ≤ shard_number p → Contains (paths_of (rows_at ss (shard_number p - n))) p) → HaveRows ss
  have_from n [] a has = tt
  have_from n (s ∷ ss) a has = (
    All-weaker (λ p. HasRowOr n s p) (λ p. Contains (paths_of s.rows) p) (λ p h. row_here_or n s ss p has h) s.asked a.0,
    have_from (suc n) ss a.1 (λ p h above. subst (λ z. Contains (paths_of z) p) (next_at s ss (shard_number p) n above) (has p h (omega arith))),
  )

-- where each path that was asked then has its row among those that were added, and each that was asked before had its row
pub extended_have_rows : {S O G : Type 0} (gp : G → List ℕ) (go : G → ℕ) (old new : List (ShardView S O G)) → length old ≡ 16 → HaveRows old → (h : IsExtended gp go old new) → All (λ path. Contains (paths_of h.rows) path) h.asks →
    HaveRows new
extended_have_rows gp go old new sixteen before h have =
    let P : List ℕ → Type 0 = λ p. Contains (paths_of h.rows) p in
    let middle = ask_all h.asks old in
    let long : length middle ≡ 16 = length_asked h.asks old ∙ sixteen in
    subst (λ z. HaveRows z) (sym h.is)
    (have_from P 0 (add_all h.rows middle) (kept_all P h.rows middle (asked_all P h.asks old have (had_rows P 0 old before)))
    (λ p c _. let e : shard_number p - 0 ≡ shard_number p = omega arith in
    subst (λ z. Contains (paths_of (rows_at (add_all h.rows middle) z)) p) (sym e)
    (All-contains (λ q. Contains (paths_of (rows_at (add_all h.rows middle) (shard_number q))) q) (paths_of h.rows) p (rows_in h.rows middle long) c)))
