-- The places that files have in the chain of folders.
use Rattle.std.proofs.Common.{◌≡◌, ℕ, zero, suc, ◌+◌, Bool, true, false, if◌then◌else◌, List, [], ◌∷◌, map, drop, length, refl, ap, sym, ◌∙◌, subst, arith, Option, Some, None}
use Rattle.std.specs.Prelude.{⊤}
use Rattle.std.specs.Option.{option_map_or}
use Rattle.std.proofs.lemmas.List.{drop-drop, drop-map}
use Rattle.std.proofs.Math.Seq.{drop-append-add}
use Rattle.std.proofs.lemmas.Slice.Eq.{bytes_eq-Decides}
use Rattle.std.proofs.lemmas.Option.{same_Some}
use Rattle.scan_model.specs.declared.command.Form.{Form}
use Rattle.scan_model.specs.declared.command.Form.TheVariants.{Quoted, Angled, Next}
use Rattle.scan_model.specs.declared.command.SearchList.{SearchList}
use Rattle.scan_model.specs.TokenTests.{same}
use Rattle.scan_model.specs.Paths.{is_absolute, normal, join}
use Rattle.scan_model.specs.Candidates.{angled_folders, chain, folders, candidates, folder_place, place, numbered, placed, place_in}
use Rattle.scan_model.specs.Files.{FileMap, Content, Present, Absent, Failed, Big, NoMemory, Found, At, Unread, Nowhere, found_at, find, and_later, looked_at}
use Rattle.unit_laws.specs.Chain.{PlacedAreCandidates, FoundPlace, NextGoesOn}

numbered_paths : {Y : Type 0} → (gives : ℕ → Y) (k : ℕ) (paths : List (List ℕ)) → map (λ p. p.0) (numbered gives k paths) ≡ paths
numbered_paths gives k [] = refl
numbered_paths gives k (path ∷ paths) = ap (path ∷◌) (numbered_paths gives (k + 1) paths)

pub placed_are_candidates : PlacedAreCandidates
unfolding placed
placed_are_candidates list program form from name = numbered_paths (place list form name) 0 (candidates list program form from name)

-- ## Going on

next_folders : (list : SearchList) (program : List (List ℕ)) (form : Form) (from : List ℕ) (k n : ℕ) → folder_place list form k ≡ Some n →
    drop n (chain list program) ≡ drop (k + 1) (folders list program form from)
next_folders list program Angled from k n h =
    let at : n ≡ length list.quote + (k + 1) = omega (arith, same_Some (length list.quote + k + 1) n h) in
    ap (λ z. drop z (chain list program)) at
    ∙ drop-append-add list.quote (angled_folders list program) (k + 1)
next_folders list program Quoted from zero n h = absurd (cc)
next_folders list program Quoted from (suc k) n h =
    let behind : suc (k + 1) ≡ suc k + 1 = omega arith in
    ap (λ z. drop z (chain list program)) (sym (same_Some (k + 1) n h))
    ∙ ap (λ z. drop z (from ∷ chain list program)) behind
next_folders list program (Next m) from k n h =
    let at : n ≡ m + (k + 1) = omega (arith, same_Some (m + k + 1) n h) in
    ap (λ z. drop z (chain list program)) at
    ∙ sym (drop-drop (k + 1) m (chain list program))

pub next_goes_on : NextGoesOn
unfolding candidates place
next_goes_on list program form from other name k n h = by_kind (is_absolute name) h where
  by_kind : (b : Bool) → (if b then None else folder_place list form k) ≡ Some n →
      (if b then normal name ∷ [] else map (λ folder. join folder name) (folders list program (Next n) other))
      ≡ drop (k + 1) (if b then normal name ∷ [] else map (λ folder. join folder name) (folders list program form from))
  by_kind true h = absurd (cc)
  by_kind false h =
      ap (map (λ folder. join folder name)) (next_folders list program form from k n h)
      ∙ sym (drop-map (λ folder. join folder name) (k + 1) (folders list program form from))

-- ## What is found

module _ (X : Type 0) (files : FileMap X) where
  abbrev is_absent : Content X → Bool
  is_absent Absent = true
  is_absent content = false

  -- what is found is there, and isn't absent
  abbrev IsThere : Found X → Type 0
  IsThere (At path content) = (files path ≡ Some content) × (is_absent content ≡ false)
  IsThere (Unread path) = ⊤
  IsThere Nowhere = ⊤

  there_at : (p : List ℕ) (o : Option (Content X)) (later : Found X) → files p ≡ o → IsThere later → IsThere (found_at p o later)
  there_at p None later h k = tt
  there_at p (Some Absent) later h k = k
  there_at p (Some (Present x)) later h k = (h, refl)
  there_at p (Some Failed) later h k = (h, refl)
  there_at p (Some Big) later h k = (h, refl)
  there_at p (Some NoMemory) later h k = (h, refl)

  there : (paths : List (List ℕ)) → IsThere (find files paths)
  unfolding find
  there [] = tt
  there (p ∷ ps) = there_at p (files p) (find files ps) refl (there ps)

  module _ (gives : ℕ → Option ℕ) where
    -- what is found is the last that was looked at, and the pairs give for it what is given for that one's number
    abbrev GivenFor : ℕ → List (List ℕ × Option ℕ) → Found X → List (List ℕ) → Type 0
    GivenFor i ps (At path content) looks = (k : ℕ) × (length looks ≡ k + 1) × (place_in ps path ≡ gives (i + k))
    GivenFor i ps (Unread path) looks = ⊤
    GivenFor i ps Nowhere looks = ⊤

    itself : (i : ℕ) (p : List ℕ) (rest : List (List ℕ × Option ℕ)) → place_in ((p, gives i) ∷ rest) p ≡ gives (i + 0)
    unfolding place_in
    itself i p rest = ap (λ b. if b then gives i else place_in rest p) ((bytes_eq-Decides p p).1 refl) ∙ ap gives (omega arith)

    not_itself : (i : ℕ) (p : List ℕ) (rest : List (List ℕ × Option ℕ)) (path : List ℕ) → same p path ≡ false → place_in ((p, gives i) ∷ rest) path ≡ place_in rest path
    unfolding place_in
    not_itself i p rest path h = ap (λ b. if b then gives i else place_in rest path) h

    -- an absent path isn't the one that is found
    differs : (p path : List ℕ) (content : Content X) → files p ≡ Some Absent → files path ≡ Some content → is_absent content ≡ false → (b : Bool) → same p path ≡ b → b ≡ false
    differs p path content h k n true e =
        let known : Some Absent ≡ Some content = sym h ∙ ap files ((bytes_eq-Decides p path).0 e) ∙ k in
        ap (λ o. option_map_or is_absent o true) known ∙ n
    differs p path content h k n false e = refl

    later_given : (i : ℕ) (p : List ℕ) (rest : List (List ℕ × Option ℕ)) (looks : List (List ℕ)) (later : Found X) → files p ≡ Some Absent → IsThere later →
        GivenFor (i + 1) rest later looks → GivenFor i ((p, gives i) ∷ rest) later (p ∷ looks)
    later_given i p rest looks (At path content) h k g = (
      g.0 + 1,
      omega (arith, g.1),
      not_itself i p rest path (differs p path content h k.0 k.1 (same p path) refl) ∙ g.2 ∙ ap gives (omega arith),
    )
    later_given i p rest looks (Unread path) h k g = tt
    later_given i p rest looks Nowhere h k g = tt

    one_given : (i : ℕ) (p : List ℕ) (rest : List (List ℕ × Option ℕ)) (looks : List (List ℕ)) (later : Found X) (o : Option (Content X)) → files p ≡ o → IsThere later →
        GivenFor (i + 1) rest later looks → GivenFor i ((p, gives i) ∷ rest) (found_at p o later) (p ∷ and_later o looks)
    one_given i p rest looks later None h k g = tt
    one_given i p rest looks later (Some Absent) h k g = later_given i p rest looks later h k g
    one_given i p rest looks later (Some (Present x)) h k g = (0, refl, itself i p rest)
    one_given i p rest looks later (Some Failed) h k g = (0, refl, itself i p rest)
    one_given i p rest looks later (Some Big) h k g = (0, refl, itself i p rest)
    one_given i p rest looks later (Some NoMemory) h k g = (0, refl, itself i p rest)

    given : (i : ℕ) (paths : List (List ℕ)) → GivenFor i (numbered gives i paths) (find files paths) (looked_at files paths)
    unfolding find looked_at
    given i [] = tt
    given i (p ∷ ps) = one_given i p (numbered gives (i + 1) ps) (looked_at files ps) (find files ps) (files p) refl (there ps) (given (i + 1) ps)

pub found_place : (X : Type 0) → FoundPlace X
unfolding placed
found_place X files list program form from name path content k h n =
    let gives = place list form name in
    let paths = candidates list program form from name in
    let g = subst (λ f. GivenFor X files gives 0 (numbered gives 0 paths) f (looked_at files paths)) h (given X files gives 0 paths) in
    g.2 ∙ ap gives (omega (arith, g.1, n))
