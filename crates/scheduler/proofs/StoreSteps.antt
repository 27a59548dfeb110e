-- What an ask and a row make of the file map, and what larger maps keep.
use Rattle.std.proofs.Common.{◌≡◌, ◌≢◌, ◌<◌, ◌⊎◌, inl, inr, ℕ, Bool, true, false, if◌then◌else◌, List, [], ◌∷◌, ◌++◌, length, Contains, refl, ap, sym, ◌∙◌, subst, ⊎_elim, Option, Some, None}
use Rattle.std.specs.Prelude.{All, ◌||◌}
use Rattle.std.specs.List.{list_any}
use Rattle.std.proofs.lemmas.List.Folds.{list_any_none}
use Rattle.std.proofs.lemmas.List.Elements.{All-head, All-tail, All-weaker, Contains-append_left}
use Rattle.std.proofs.lemmas.Slice.Eq.{bytes_eq-Decides}
use Rattle.scan_model.specs.declared.Outcome.{Outcome}
use Rattle.scan_model.specs.declared.command.Settings.{Settings}
use Rattle.scan_model.specs.declared.command.Job.{Job}
use Rattle.scan_model.specs.declared.unit_end.UnitEnd.{UnitEnd}
use Rattle.scan_model.specs.Lines.{lines}
use Rattle.scan_model.specs.Files.{FileMap, Content}
use Rattle.scan_model.specs.TokenTests.{same}
use Rattle.scan_model.specs.Answer.{answer, looked}
use Rattle.unit_laws.specs.Growth.{Extends}
use Rattle.unit_laws.proofs.GrowingAnswers.{answer_stays, looked_grows, begins_longer}
use Rattle.shard_cache.specs.declared.kept_row.KeptRow.{KeptRow}
use Rattle.shard_cache.specs.Rows.{ShardView, all_rows, row_content, change_at, kept_also, LacksPath}
use Rattle.shard_cache.specs.StoreMap.{file_map}
use Rattle.shard_cache.proofs.RowLemmas.{All-parts}
use Rattle.shard_cache.proofs.Inserting.{flat_map-change_at}
use Rattle.shard_cache.proofs.MapLemmas.{file_map-none}
use Rattle.shard_cache.specs.Ends.{IsEnd, IsLookedAt}
use Rattle.scheduler.specs.Order.{has_row}

-- ## A row more

pub same_or_other : (xs ys : List ℕ) → (xs ≡ ys) ⊎ (xs ≢ ys)
same_or_other xs ys = by_test xs ys (same xs ys) refl
  where
    by_test : (xs ys : List ℕ) (b : Bool) → same xs ys ≡ b → (xs ≡ ys) ⊎ (xs ≢ ys)
    by_test xs ys true e = inl ((bytes_eq-Decides xs ys).0 e)
    by_test xs ys false e = inr (λ is. let t : same xs ys ≡ true = (bytes_eq-Decides xs ys).1 is in cc)

different : (xs ys : List ℕ) → xs ≢ ys → (b : Bool) → same xs ys ≡ b → b ≡ false
different xs ys differ true e = absurd (differ ((bytes_eq-Decides xs ys).0 e))
different xs ys differ false e = refl

module _ {S O G : Type 0} (outcome : G → Outcome) (bytes : G → List ℕ) where
  -- the row's path has what the row stands for
  has_inserted : (before after : List (KeptRow S O G)) (row : KeptRow S O G) → All (λ (r : KeptRow S O G). r.path ≢ row.path) before →
      file_map outcome bytes (before ++ row ∷ after) row.path ≡ Some (row_content outcome bytes row)
  has_inserted [] after row lacks = let found : same row.path row.path ≡ true = (bytes_eq-Decides row.path row.path).1 refl in rw found refl
  has_inserted (b ∷ before) after row lacks =
      let P : KeptRow S O G → Type 0 = λ r. r.path ≢ row.path in
      let other : same b.path row.path ≡ false = different b.path row.path (All-head P b before lacks) (same b.path row.path) refl in
      rw other (has_inserted before after row (All-tail P b before lacks))

  -- and other paths have what they had
  others_keep : (before after : List (KeptRow S O G)) (row : KeptRow S O G) (path : List ℕ) → same row.path path ≡ false →
      file_map outcome bytes (before ++ row ∷ after) path ≡ file_map outcome bytes (before ++ after) path
  others_keep [] after row path differs = rw differs refl
  others_keep (b ∷ before) after row path differs = rw (others_keep before after row path differs) refl

  module _ (row : KeptRow S O G) (k : ℕ) (ss : List (ShardView S O G)) (inside : k < length ss) where
    pub kept_has : LacksPath ss row.path → file_map outcome bytes (all_rows (change_at (kept_also row) k ss)) row.path ≡ Some (row_content outcome bytes row)
    kept_has lacks =
        let added = flat_map-change_at (λ (s : ShardView S O G). s.rows) (kept_also row) row k ss (λ s. refl) inside in
        let apart : All (λ (r : KeptRow S O G). r.path ≢ row.path) (added.before ++ added.after) = subst (λ z. All (λ (r : KeptRow S O G). r.path ≢ row.path) z) added.was lacks in
        ap (λ z. file_map outcome bytes z row.path) added.now ∙ has_inserted added.before added.after row (All-parts (λ (r : KeptRow S O G). r.path ≢ row.path) added.before added.after apart).0

    pub kept_others : (path : List ℕ) → row.path ≢ path → file_map outcome bytes (all_rows (change_at (kept_also row) k ss)) path ≡ file_map outcome bytes (all_rows ss) path
    kept_others path differ =
        let added = flat_map-change_at (λ (s : ShardView S O G). s.rows) (kept_also row) row k ss (λ s. refl) inside in
        ap (λ z. file_map outcome bytes z path) added.now
        ∙ others_keep added.before added.after row path (different row.path path differ (same row.path path) refl)
        ∙ ap (λ z. file_map outcome bytes z path) (sym added.was)

    -- so the map grows
    pub kept_grows : LacksPath ss row.path → Extends (List ℕ) (file_map outcome bytes (all_rows ss)) (file_map outcome bytes (all_rows (change_at (kept_also row) k ss)))
    kept_grows lacks path content has = elim (same_or_other row.path path) [
      | inl here ↦ (
          let none : file_map outcome bytes (all_rows ss) row.path ≡ None = file_map-none outcome bytes row.path (all_rows ss) lacks in
          let some : file_map outcome bytes (all_rows ss) row.path ≡ Some content = subst (λ z. file_map outcome bytes (all_rows ss) z ≡ Some content) (sym here) has in
          cc
          )
      | inr other ↦ kept_others path other ∙ has
    ]

-- ## Whether a path has a row

pub has_no_row : {S O G : Type 0} (store : List (ShardView S O G)) (path : List ℕ) → LacksPath store path → has_row store path ≡ false
has_no_row {S} {O} {G} store path lacks =
    list_any_none (λ (row : KeptRow S O G). same row.path path) (all_rows store)
    (All-weaker (λ (row : KeptRow S O G). row.path ≢ path) (λ (row : KeptRow S O G). same row.path path ≡ false) (λ row differ. different row.path path differ (same row.path path) refl) (all_rows store) lacks)

module _ {S O G : Type 0} (outcome : G → Outcome) (bytes : G → List ℕ) where
  row_if : (row : KeptRow S O G) (later : Option (Content (List ℕ))) (any : Bool) (content : Content (List ℕ)) → (later ≡ Some content → any ≡ true) → (b : Bool) → (if b then Some (row_content outcome bytes row) else later) ≡ Some content → (b || any) ≡ true
  row_if row later any content each true h = refl
  row_if row later any content each false h = each h

  row_in : (rows : List (KeptRow S O G)) (path : List ℕ) (content : Content (List ℕ)) → file_map outcome bytes rows path ≡ Some content → list_any (λ row. same row.path path) rows ≡ true
  row_in [] path content h = cc
  row_in (row ∷ rows) path content h = row_if row (file_map outcome bytes rows path) (list_any (λ (z : KeptRow S O G). same z.path path) rows) content (row_in rows path content) (same row.path path) h

  -- a path of the map has a row
  pub has_its_row : (store : List (ShardView S O G)) (path : List ℕ) (content : Content (List ℕ)) → file_map outcome bytes (all_rows store) path ≡ Some content → has_row store path ≡ true
  has_its_row store path content h = row_in (all_rows store) path content h

-- ## Larger maps

module _ (files more : FileMap (List ℕ)) (extends : Extends (List ℕ) files more) (settings : Settings) where
  looks_stay : (job : Job) (path : List ℕ) → Contains (looked files settings job) path → Contains (looked more settings job) path
  unfolding looked
  looks_stay job path c =
      let longer = begins_longer _ _ (looked_grows (List ℕ) lines files more settings job extends) in
      subst (λ z. Contains z path) (sym longer.1) (Contains-append_left _ longer.0 path c)

  pub looked_at_stays : (jobs : List Job) (path : List ℕ) → IsLookedAt files settings jobs path → IsLookedAt more settings jobs path
  looked_at_stays jobs path (k, job, inside, at, looks) = (k, job, inside, at, looks_stay job path looks)

  pub end_stays : (job : Job) (end : UnitEnd) → IsEnd files settings job end → IsEnd more settings job end
  unfolding answer
  end_stays job end is = ⊎_elim (λ known. inl (answer_stays (List ℕ) lines files more settings job end extends known).0) (λ none. inr none) is
