-- The elements of lists after one another, and of the paths at which a name is looked for.
use Rattle.std.proofs.Common.{◌≡◌, ◌<◌, ◌≤◌, ◌+◌, ◌-◌, ℕ, Bool, true, false, zero, suc, cond, Some, None, List, [], ◌∷◌, ◌++◌, length, get_or, drop, map, slice_get, ap, ◌∙◌, refl, subst, sym, arith}
use Rattle.std.specs.Borrow.{Bor}
use Rattle.std.specs.Option.{option_map}
use Rattle.std.proofs.lemmas.Option.{slice_get-map, slice_get-get_or, slice_get_within}
use Rattle.std.proofs.lemmas.List.{at_drop_more, length-append, length-drop, length-map}
use Rattle.scan_model.specs.declared.command.Form.{Form}
use Rattle.scan_model.specs.declared.command.Form.TheVariants.{Quoted, Angled, Next}
use Rattle.scan_model.specs.declared.command.SearchList.{SearchList}
use Rattle.scan_model.specs.Paths.{is_absolute, normal, join}
use Rattle.scan_model.specs.Candidates.{angled_folders, candidates, chain, folder_place, folders, place}
use Rattle.path_search.specs.Lists.{chained}

-- ---- lists after one another

slice_get_front : {X : Type 0} (xs ys : List X) (k : ℕ) → k < length xs → slice_get (xs ++ ys) k ≡ slice_get xs k
slice_get_front [] ys k lt = absurd (omega (arith, lt))
slice_get_front (x ∷ xs) ys zero lt = refl
slice_get_front (x ∷ xs) ys (suc k) lt = slice_get_front xs ys k (omega (arith, lt))

slice_get_rest : {X : Type 0} (xs ys : List X) (i k : ℕ) → i ≡ length xs + k → slice_get (xs ++ ys) i ≡ slice_get ys k
slice_get_rest [] ys i k e = ap (slice_get ys) (omega (arith, e))
slice_get_rest (x ∷ xs) ys zero k e = absurd (omega (arith, e))
slice_get_rest (x ∷ xs) ys (suc i) k e = slice_get_rest xs ys i k (omega (arith, e))

-- the element stands in the next list
pub chained_here : (lists : List (Bor (List (List ℕ)))) (i k : ℕ) (list : Bor (List (List ℕ))) (d : List ℕ) → i < length lists → list ≡ get_or lists i list → k < length list.now → slice_get (chained (drop i lists)) k ≡ Some (get_or list.now k d)
chained_here lists i k list d within is lt =
    at_drop_more (λ rest. slice_get (chained rest) k) lists i list within
    ∙ (ap (λ next. slice_get (chained (next ∷ drop (i + 1) lists)) k) (sym is)
    ∙ (slice_get_front list.now (chained (drop (i + 1) lists)) k lt ∙ slice_get-get_or list.now k d lt))

-- the element stands behind the next list
pub chained_later : (lists : List (Bor (List (List ℕ)))) (i k : ℕ) (list : Bor (List (List ℕ))) → i < length lists → list ≡ get_or lists i list → length list.now ≤ k → slice_get (chained (drop i lists)) k ≡ slice_get (chained (drop (i + 1) lists)) (k - length list.now)
chained_later lists i k list within is le =
    at_drop_more (λ rest. slice_get (chained rest) k) lists i list within
    ∙ (ap (λ next. slice_get (chained (next ∷ drop (i + 1) lists)) k) (sym is)
    ∙ slice_get_rest list.now (chained (drop (i + 1) lists)) k (k - length list.now) (omega (arith, le)))

-- ---- the paths at which a name is looked for

pub candidates_alone : (list : SearchList) (program : List (List ℕ)) (form : Form) (from name : List ℕ) → is_absolute name ≡ true → candidates list program form from name ≡ normal name ∷ []
unfolding candidates
candidates_alone list program form from name absolute = ap (λ a. cond a (normal name ∷ []) (map (λ folder. join folder name) (folders list program form from))) absolute

pub candidates_below : (list : SearchList) (program : List (List ℕ)) (form : Form) (from name : List ℕ) (k : ℕ) → is_absolute name ≡ false → slice_get (candidates list program form from name) k ≡ option_map (λ folder. join folder name) (slice_get (folders list program form from) k)
unfolding candidates
candidates_below list program form from name k relative =
    ap (λ a. slice_get (cond a (normal name ∷ []) (map (λ folder. join folder name) (folders list program form from))) k) relative
    ∙ slice_get-map (λ folder. join folder name) (folders list program form from) k

-- ---- the places that they give

counted : (list : SearchList) (program : List (List ℕ)) (form : Form) (from name : List ℕ) → is_absolute name ≡ false → length (candidates list program form from name) ≡ length (folders list program form from)
unfolding candidates
counted list program form from name relative =
    ap (λ a. length (cond a (normal name ∷ []) (map (λ folder. join folder name) (folders list program form from)))) relative
    ∙ length-map (folders list program form from) (λ folder. join folder name)

-- there is a candidate of this number
abbrev pub IsThere : SearchList → List (List ℕ) → Form → List ℕ → ℕ → Type 0
IsThere list program form name k = (from : List ℕ) → k < length (candidates list program form from name)

same_count : (list : SearchList) (program : List (List ℕ)) (form : Form) (from other : List ℕ) → length (folders list program form from) ≡ length (folders list program form other)
same_count list program Quoted from other = refl
same_count list program Angled from other = refl
same_count list program (Next n) from other = refl

there_by_kind : (absolute : Bool) (list : SearchList) (program : List (List ℕ)) (form : Form) (name : List ℕ) (k : ℕ) (from : List ℕ) → is_absolute name ≡ absolute → k < length (candidates list program form from name) → IsThere list program form name k
there_by_kind true list program form name k from kind lt other =
    subst (λ paths. k < length paths) (candidates_alone list program form from name kind ∙ sym (candidates_alone list program form other name kind)) lt
there_by_kind false list program form name k from kind lt other =
    subst (λ n. k < n) (counted list program form from name kind ∙ (same_count list program form from other ∙ sym (counted list program form other name kind))) lt

-- whatever folder the name is looked for from, it has as many candidates
pub there_by_one : (list : SearchList) (program : List (List ℕ)) (form : Form) (name : List ℕ) (k : ℕ) (from : List ℕ) (path : List ℕ) → slice_get (candidates list program form from name) k ≡ Some path → IsThere list program form name k
there_by_one list program form name k from path found =
    there_by_kind (is_absolute name) list program form name k from refl (slice_get_within (candidates list program form from name) k path found)

pub angled_fits : (list : SearchList) (program : List (List ℕ)) (form : Form) (name : List ℕ) (k : ℕ) → form ≡ Angled → is_absolute name ≡ false → IsThere list program form name k → length (chain list program) < 4294967295 → length list.quote + k + 1 < 4294967296
angled_fits list program form name k is relative there few =
    let within : k < length (angled_folders list program) = subst (λ n. k < n) (counted list program form [] name relative ∙ ap (λ f. length (folders list program f [])) is) (there []) in
    omega (arith, within, few, length-append list.quote (angled_folders list program))

pub next_fits : (list : SearchList) (program : List (List ℕ)) (form : Form) (name : List ℕ) (k n : ℕ) → form ≡ Next n → is_absolute name ≡ false → IsThere list program form name k → length (chain list program) < 4294967295 → n + k + 1 < 4294967296
next_fits list program form name k n is relative there few =
    let within : k < length (drop n (chain list program)) = subst (λ n. k < n) (counted list program form [] name relative ∙ ap (λ f. length (folders list program f [])) is) (there []) in
    omega (arith, within, few, length-drop n (chain list program))

pub place_none : (list : SearchList) (form : Form) (name : List ℕ) (k : ℕ) → is_absolute name ≡ true → None ≡ place list form name k
unfolding place
place_none list form name k absolute = rw absolute refl

pub place_first : (list : SearchList) (form : Form) (name : List ℕ) (k : ℕ) → form ≡ Quoted → k ≡ 0 → is_absolute name ≡ false → None ≡ place list form name k
unfolding place
place_first list form name k is first relative = rw (relative, is, first) refl

behind : (list : SearchList) (k : ℕ) → (k ≡ 0 → ⊥) → Some k ≡ folder_place list Quoted k
behind list zero h = absurd (h refl)
behind list (suc k) h = ap Some (omega arith)

pub place_behind : (list : SearchList) (form : Form) (name : List ℕ) (k : ℕ) → form ≡ Quoted → (k ≡ 0 → ⊥) → is_absolute name ≡ false → Some k ≡ place list form name k
unfolding place
place_behind list form name k is later relative = rw (relative, is) (behind list k later)

pub place_angled : (list : SearchList) (form : Form) (name : List ℕ) (k : ℕ) → form ≡ Angled → is_absolute name ≡ false → Some (length list.quote + k + 1) ≡ place list form name k
unfolding place
place_angled list form name k is relative = rw (relative, is) refl

pub place_next : (list : SearchList) (form : Form) (name : List ℕ) (k n : ℕ) → form ≡ Next n → is_absolute name ≡ false → Some (n + k + 1) ≡ place list form name k
unfolding place
place_next list form name k n is relative = rw (relative, is) refl
