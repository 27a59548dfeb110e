-- What an ask and an added row keep of a store that is one map.
use Rattle.std.proofs.Common.{◌≡◌, ◌≢◌, ◌<◌, ℕ, zero, suc, Bool, true, false, List, [], ◌∷◌, ◌++◌, length, Some, None, All, Contains, get_or, map, subst, refl, sym, ◌∙◌, ap, lit<, sum, mod-lt, arith}
use Rattle.std.proofs.lemmas.Slice.Eq.{bytes_eq-Decides}
use Rattle.std.proofs.lemmas.List.{append-nil, length-map, get_or-map}
use Rattle.std.proofs.lemmas.List.Elements.{All-nil, All-cons, All-head, All-tail, All-weaker, All-contains, Contains-append_left}
use Rattle.scan_model.specs.declared.Outcome.{Outcome}
use Rattle.scan_model.specs.TokenTests.{same}
use Rattle.shard_cache.specs.declared.kept_row.KeptRow.{KeptRow}
use Rattle.shard_cache.specs.Rows.{ShardView, all_rows, all_asked, paths_of, AllDiffer, change_at, asked_also, shard_number, IsStore, row_content}
use Rattle.shard_cache.specs.StoreMap.{file_map, IsGivenHere, AreGiven, IsOneMap, HaveRows, IsUntouched}

-- ## An untouched store

pub append-nil_parts : {A : Type 0} (xs ys : List A) → xs ++ ys ≡ [] → (xs ≡ []) × (ys ≡ [])
append-nil_parts [] ys e = (refl, e)
append-nil_parts (x ∷ xs) ys e = cc

given_of_no_row : {S O G : Type 0} (gp : G → List ℕ) (go : G → ℕ) (ss : List (ShardView S O G)) → all_rows ss ≡ [] → AreGiven gp go ss
given_of_no_row gp go [] e = tt
given_of_no_row gp go (s ∷ ss) e =
    let parts = append-nil_parts s.rows (all_rows ss) e in
    let here : IsGivenHere gp go s = record { asked = rw parts.0 (All-nil _); path = rw parts.0 (All-nil _); origin = rw parts.0 (All-nil _) } in
    (here, given_of_no_row gp go ss parts.1)

pub IsUntouched-IsOneMap : {S O G : Type 0} (gp : G → List ℕ) (go : G → ℕ) (ss : List (ShardView S O G)) → IsUntouched ss → IsOneMap gp go ss
IsUntouched-IsOneMap gp go ss u = record {
  asked_once = rw u.nothing_asked tt;
  paths_differ = rw u.no_row tt;
  given = given_of_no_row gp go ss u.no_row;
}

rows_of_nothing : {S O G : Type 0} (ss : List (ShardView S O G)) → all_asked ss ≡ [] → HaveRows ss
rows_of_nothing [] e = tt
rows_of_nothing (s ∷ ss) e = let parts = append-nil_parts s.asked (all_asked ss) e in (rw parts.0 (All-nil _), rows_of_nothing ss parts.1)

-- ## An ask

pub given_asked : {S O G : Type 0} (gp : G → List ℕ) (go : G → ℕ) (path : List ℕ) (k : ℕ) (ss : List (ShardView S O G)) → AreGiven gp go ss → AreGiven gp go (change_at (asked_also path) k ss)
given_asked gp go path k [] g = tt
given_asked {S} {O} {G} gp go path zero (s ∷ ss) g = (
  record {
    asked = All-weaker (λ (row : KeptRow S O G). Contains s.asked row.path) (λ row. Contains (s.asked ++ path ∷ []) row.path) (λ row c. Contains-append_left s.asked (path ∷ []) row.path c) s.rows g.0.asked;
    path = g.0.path;
    origin = g.0.origin;
  },
  g.1,
)
given_asked gp go path (suc k) (s ∷ ss) g = (g.0, given_asked gp go path k ss g.1)

-- ## A row

-- ## The file map

file_map-lacking : {S O G : Type 0} (outcome : G → Outcome) (bytes : G → List ℕ) (path : List ℕ) (rows more : List (KeptRow S O G)) → All (λ row. row.path ≢ path) rows → file_map outcome bytes (rows ++ more) path ≡ file_map outcome bytes more path
file_map-lacking outcome bytes path [] more l = refl
file_map-lacking {S} {O} {G} outcome bytes path (row ∷ rows) more l =
    let other : row.path ≢ path = All-head (λ (r : KeptRow S O G). r.path ≢ path) row rows l in
    let differs : same row.path path ≡ false = not_same row.path path other in
    rw differs (file_map-lacking outcome bytes path rows more (All-tail (λ (r : KeptRow S O G). r.path ≢ path) row rows l))
  where
    not_true : (b : Bool) → (b ≡ true → ⊥) → b ≡ false
    not_true true h = absurd (h refl)
    not_true false h = refl

    not_same : (xs ys : List ℕ) → xs ≢ ys → same xs ys ≡ false
    not_same xs ys ne = not_true (same xs ys) (λ e. ne ((bytes_eq-Decides xs ys).0 e))

-- a path that no row has isn't in the map
pub file_map-none : {S O G : Type 0} (outcome : G → Outcome) (bytes : G → List ℕ) (path : List ℕ) (rows : List (KeptRow S O G)) → All (λ row. row.path ≢ path) rows → file_map outcome bytes rows path ≡ None
file_map-none outcome bytes path rows l = ap (λ z. file_map outcome bytes z path) (sym (append-nil rows)) ∙ file_map-lacking outcome bytes path rows [] l

pub contains_map : {A B : Type 0} (f : A → B) (xs : List A) (x : A) → Contains xs x → Contains (map f xs) (f x)
contains_map f xs x (k, inside, at) = (k, subst (λ n. k < n) (sym (length-map xs f)) inside, get_or-map f xs k x (f x) inside ∙ ap f at)

found_at : {S O G : Type 0} (outcome : G → Outcome) (bytes : G → List ℕ) (rows : List (KeptRow S O G)) (row : KeptRow S O G) (k : ℕ) → AllDiffer (paths_of rows) → k < length rows → get_or rows k row ≡ row → file_map outcome bytes rows row.path ≡ Some (row_content outcome bytes row)
found_at outcome bytes [] row k differ inside at = absurd (omega arith)
found_at outcome bytes (r ∷ rows) row zero differ inside at =
    let found : same r.path row.path ≡ true = (bytes_eq-Decides r.path row.path).1 (ap (λ z. z.path) at) in
    rw found (ap (λ z. Some (row_content outcome bytes z)) at)
found_at {S} {O} {G} outcome bytes (r ∷ rows) row (suc k) differ inside at =
    let below : k < length rows = omega arith in
    let has : Contains (paths_of rows) row.path = contains_map (λ (z : KeptRow S O G). z.path) rows row (k, below, at) in
    let other : r.path ≢ row.path = All-contains (λ q. r.path ≢ q) (paths_of rows) row.path differ.0 has in
    file_map-lacking outcome bytes row.path (r ∷ []) rows (All-cons (λ (z : KeptRow S O G). z.path ≢ row.path) r [] other (All-nil _))
    ∙ found_at outcome bytes rows row k differ.1 below at

-- where no two rows have one path, the map has what each row stands for
pub file_map-found : {S O G : Type 0} (outcome : G → Outcome) (bytes : G → List ℕ) (rows : List (KeptRow S O G)) (row : KeptRow S O G) → AllDiffer (paths_of rows) → Contains rows row → file_map outcome bytes rows row.path ≡ Some (row_content outcome bytes row)
file_map-found outcome bytes rows row differ (k, inside, at) = found_at outcome bytes rows row k differ inside at

-- ## A fresh store in which one path is asked for

pub IsUntouched-HaveRows : {S O G : Type 0} (ss : List (ShardView S O G)) → IsUntouched ss → HaveRows ss
IsUntouched-HaveRows ss u = rows_of_nothing ss u.nothing_asked

pub length-change_at : {A : Type 0} (f : A → A) (k : ℕ) (xs : List A) → length (change_at f k xs) ≡ length xs
length-change_at f k [] = refl
length-change_at f zero (x ∷ xs) = refl
length-change_at f (suc k) (x ∷ xs) = ap suc (length-change_at f k xs)

-- a path's shard is one of the store's
pub shard_inside : {S O G : Type 0} (fits : KeptRow S O G → Type 0) (f : ShardView S O G → ShardView S O G) (path : List ℕ) (ss now : List (ShardView S O G)) → now ≡ change_at f (shard_number path) ss → IsStore fits now → shard_number path < length ss
shard_inside fits f path ss now e valid =
    let sixteen : length ss ≡ 16 = sym (length-change_at f (shard_number path) ss) ∙ (sym (ap length e) ∙ valid.sixteen) in
    rw sixteen (mod-lt (sum path) (lit< tt))
