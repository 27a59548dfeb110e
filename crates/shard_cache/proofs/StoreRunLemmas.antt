-- A run over a store, step by step.
use Rattle.std.proofs.Common.{◌≡◌, ◌≢◌, ℕ, zero, suc, List, [], ◌∷◌, ◌++◌, All, refl, ap, sym, ◌∙◌}
use Rattle.std.specs.Prelude.{Contains}
use Rattle.std.proofs.lemmas.List.Elements.{All-nil, All-cons, All-append, All-weaker, Contains-append_left}
use Rattle.shard_cache.specs.declared.kept_row.KeptRow.{KeptRow}
use Rattle.shard_cache.specs.Rows.{ShardView, change_at, asked_also, kept_also, shard_number, LacksPath}
use Rattle.shard_cache.specs.StoreRun.{ask_all, add_all, IsGivenRow, IsExtended}
use Rattle.shard_cache.proofs.RowLemmas.{AllDiffer-push}

-- ## The order of asks and adds

-- two changes that don't meet
change_commute : {A : Type 0} (f g : A → A) → ((x : A) → f (g x) ≡ g (f x)) → (j k : ℕ) (xs : List A) → change_at f j (change_at g k xs) ≡ change_at g k (change_at f j xs)
change_commute f g same j k [] = refl
change_commute f g same zero zero (x ∷ xs) = ap (λ z. z ∷ xs) (same x)
change_commute f g same zero (suc k) (x ∷ xs) = refl
change_commute f g same (suc j) zero (x ∷ xs) = refl
change_commute f g same (suc j) (suc k) (x ∷ xs) = ap (λ z. x ∷ z) (change_commute f g same j k xs)

module _ {S O G : Type 0} where
  pub ask_past : (path : List ℕ) (k : ℕ) (rows : List (KeptRow S O G)) (shards : List (ShardView S O G)) →
      change_at (asked_also path) k (add_all rows shards) ≡ add_all rows (change_at (asked_also path) k shards)
  ask_past path k [] shards = refl
  ask_past path k (row ∷ rows) shards =
      ask_past path k rows (change_at (kept_also row) (shard_number row.path) shards)
      ∙ ap (λ z. add_all rows z) (change_commute (asked_also path) (kept_also row) (λ x. refl) k (shard_number row.path) shards)

  pub ask_more : (paths : List (List ℕ)) (path : List ℕ) (shards : List (ShardView S O G)) → ask_all (paths ++ path ∷ []) shards ≡ change_at (asked_also path) (shard_number path) (ask_all paths shards)
  ask_more [] path shards = refl
  ask_more (p ∷ paths) path shards = ask_more paths path (change_at (asked_also p) (shard_number p) shards)

  pub add_more : (rows : List (KeptRow S O G)) (row : KeptRow S O G) (shards : List (ShardView S O G)) → add_all (rows ++ row ∷ []) shards ≡ change_at (kept_also row) (shard_number row.path) (add_all rows shards)
  add_more [] row shards = refl
  add_more (r ∷ rows) row shards = add_more rows row (change_at (kept_also r) (shard_number r.path) shards)

  -- ## Steps of a run

  module _ (given_path : G → List ℕ) (given_origin : G → ℕ) (old : List (ShardView S O G)) where
    abbrev pub extended_refl : IsExtended given_path given_origin old old
    extended_refl = record { asks = []; rows = []; is = refl; once = tt; fresh = All-nil _; asked = All-nil _; given = All-nil _ }

    -- what a path that is asked keeps
    abbrev pub extended_ask : (new : List (ShardView S O G)) (path : List ℕ) → (h : IsExtended given_path given_origin old new) → LacksPath old path → All (λ q. q ≢ path) h.asks →
        IsExtended given_path given_origin old (change_at (asked_also path) (shard_number path) new)
    extended_ask new path h lacks others = record {
      asks = h.asks ++ path ∷ [];
      rows = h.rows;
      is = ap (λ z. change_at (asked_also path) (shard_number path) z) h.is ∙ ask_past path (shard_number path) h.rows (ask_all h.asks old) ∙ ap (λ z. add_all h.rows z) (sym (ask_more h.asks path old));
      once = AllDiffer-push h.asks path h.once others;
      fresh = All-append (λ q. LacksPath old q) h.asks (path ∷ []) h.fresh (All-cons (λ q. LacksPath old q) path [] lacks (All-nil _));
      asked = All-weaker (λ (row : KeptRow S O G). Contains h.asks row.path) (λ row. Contains (h.asks ++ path ∷ []) row.path) (λ row c. Contains-append_left h.asks (path ∷ []) row.path c) h.rows h.asked;
      given = h.given;
    }

    -- and a row that is added
    abbrev pub extended_add : (new : List (ShardView S O G)) (row : KeptRow S O G) → (h : IsExtended given_path given_origin old new) → Contains h.asks row.path → IsGivenRow given_path given_origin old row →
        IsExtended given_path given_origin old (change_at (kept_also row) (shard_number row.path) new)
    extended_add new row h asked given = record {
      asks = h.asks;
      rows = h.rows ++ row ∷ [];
      is = ap (λ z. change_at (kept_also row) (shard_number row.path) z) h.is ∙ sym (add_more h.rows row (ask_all h.asks old));
      once = h.once;
      fresh = h.fresh;
      asked = All-append (λ (r : KeptRow S O G). Contains h.asks r.path) h.rows (row ∷ []) h.asked (All-cons (λ (r : KeptRow S O G). Contains h.asks r.path) row [] asked (All-nil _));
      given = All-append (λ (r : KeptRow S O G). IsGivenRow given_path given_origin old r) h.rows (row ∷ []) h.given (All-cons (λ (r : KeptRow S O G). IsGivenRow given_path given_origin old r) row [] given (All-nil _));
    }
