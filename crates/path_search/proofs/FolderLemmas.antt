-- The folder of a path.
use Rattle.std.proofs.Common.{◌≡◌, ◌<◌, ◌≤◌, ◌+◌, ◌-◌, ℕ, Bool, true, false, cond, not, List, [], ◌∷◌, ◌++◌, codes, length, get_or, take, ap, ◌∙◌, refl, sym, subst, append_assoc, arith}
use Rattle.std.proofs.Math.Bool.{or-true}
use Rattle.std.proofs.Math.Seq.{take-append_seam}
use Rattle.std.specs.List.{join_with_byte, before_last, list_any}
use Rattle.std.proofs.lemmas.Grind.{common_steps}
use Rattle.std.proofs.lemmas.List.{get_or_default}
use Rattle.std.proofs.lemmas.List.Elements.{All-nil}
use Rattle.std.proofs.lemmas.List.Sums.{suffix_len_is}
use Rattle.std.proofs.lemmas.List.Folds.{list_any_none, list_any-append}
use Rattle.scan_model.specs.Paths.{is_slash, segments, is_absolute, path_of, normal, IsNormal, or_root, folder}
use Rattle.path_search.proofs.NormalLemmas.{HasNoSlash, AreKept, AreKept-segments, IsNormal-path_of}

-- ---- the last slash

-- no slash from this place on
abbrev pub NoSlashFrom : List ℕ → ℕ → Type 0
NoSlashFrom text n = (k : ℕ) → n ≤ k → k < length text → is_slash (get_or text k 0) ≡ false

pub take_before_last : (text : List ℕ) (i : ℕ) → i < length text → is_slash (get_or text i 0) ≡ true → NoSlashFrom text (i + 1) → take i text ≡ before_last is_slash text
take_before_last text i short slash none =
    let e = suffix_len_is (λ c. not (is_slash c)) text (i + 1) 0 (omega arith) (λ k le lt. ap not (none k le lt)) (λ pos. let at : i + 1 - 1 ≡ i = omega arith in rw at (ap not slash)) in
    ap (λ n. take n text) (omega (arith, e))

pub has_no_slash : (text : List ℕ) → NoSlashFrom text 0 → list_any is_slash text ≡ false
has_no_slash text none = list_any_none is_slash text (λ k d lt. ap is_slash (get_or_default text k d 0 lt) ∙ none k (omega arith) lt)

-- ---- the folder of a path in normal form is in normal form

after_slash : (above s : List ℕ) → HasNoSlash s → NoSlashFrom (above ++ 47 ∷ s) (length above + 1)
after_slash above s none k le lt = let e = none (k - length above - 1) 0 in grind (arith, common_steps)

before_last_at : (above s : List ℕ) → HasNoSlash s → before_last is_slash (above ++ 47 ∷ s) ≡ above
before_last_at above s none = sym (take_before_last (above ++ 47 ∷ s) (length above) (grind (arith, common_steps)) (grind (arith, common_steps)) (after_slash above s none)) ∙ take-append_seam above (47 ∷ s)

folder_below : (above s : List ℕ) → HasNoSlash s → folder (above ++ 47 ∷ s) ≡ or_root above
unfolding folder
folder_below above s none =
    let path = above ++ 47 ∷ s in
    let any : list_any is_slash path ≡ true = list_any-append is_slash above (47 ∷ s) ∙ or-true (list_any is_slash above) in
    ap (λ b. cond b (or_root (before_last is_slash path)) (codes ".")) any ∙ ap or_root (before_last_at above s none)

folder_alone : (s : List ℕ) → HasNoSlash s → folder s ≡ codes "."
unfolding folder
folder_alone s none = ap (λ b. cond b (or_root (before_last is_slash s)) (codes ".")) (list_any_none is_slash s none)

-- the segments but for the last
abbrev front : List ℕ → List (List ℕ) → List (List ℕ)
front s [] = []
front s (t ∷ ts) = s ∷ front t ts

-- the last segment
abbrev last : List ℕ → List (List ℕ) → List ℕ
last s [] = s
last s (t ∷ ts) = last t ts

AreKept-front : (s : List ℕ) (ss : List (List ℕ)) → AreKept (s ∷ ss) → AreKept (front s ss)
AreKept-front s [] k = tt
AreKept-front s (t ∷ ts) k = (k.0, k.1, AreKept-front t ts k.2)

HasNoSlash-last : (s : List ℕ) (ss : List (List ℕ)) → AreKept (s ∷ ss) → HasNoSlash (last s ss)
HasNoSlash-last s [] k = k.0
HasNoSlash-last s (t ∷ ts) k = HasNoSlash-last t ts k.2

join_last : (s t : List ℕ) (ts : List (List ℕ)) → join_with_byte 47 (s ∷ t ∷ ts) ≡ join_with_byte 47 (front s (t ∷ ts)) ++ 47 ∷ last t ts
join_last s t [] = refl
join_last s t (u ∷ us) = ap (λ w. s ++ 47 ∷ w) (join_last t u us) ∙ sym (append_assoc s (47 ∷ join_with_byte 47 (front t (u ∷ us))) (47 ∷ last u us))

or_root-join : (s : List ℕ) (ss : List (List ℕ)) → AreKept (s ∷ ss) → or_root (join_with_byte 47 (s ∷ ss)) ≡ join_with_byte 47 (s ∷ ss)
or_root-join [] ss k = cc
or_root-join (c ∷ cs) [] k = refl
or_root-join (c ∷ cs) (t ∷ ts) k = refl

-- the folder of these segments: those but for the last
folder_of : Bool → List (List ℕ) → List ℕ
folder_of absolute [] = path_of absolute []
folder_of absolute (s ∷ ss) = path_of absolute (front s ss)

here : folder (codes ".") ≡ codes "."
unfolding folder
here = refl

folder-path_of : (absolute : Bool) (ss : List (List ℕ)) → AreKept ss → folder (path_of absolute ss) ≡ folder_of absolute ss
unfolding folder_of
folder-path_of true [] k = folder_below [] [] (All-nil _)
folder-path_of true (s ∷ []) k = folder_below [] s k.0
folder-path_of true (s ∷ t ∷ ts) k = ap (λ w. folder (47 ∷ w)) (join_last s t ts) ∙ folder_below (47 ∷ join_with_byte 47 (front s (t ∷ ts))) (last t ts) (HasNoSlash-last t ts k.2)
folder-path_of false [] k = here
folder-path_of false (s ∷ []) k = folder_alone s k.0
folder-path_of false (s ∷ t ∷ ts) k = ap folder (join_last s t ts) ∙ (folder_below (join_with_byte 47 (front s (t ∷ ts))) (last t ts) (HasNoSlash-last t ts k.2) ∙ or_root-join s (front t ts) (AreKept-front s (t ∷ ts) k))

IsNormal-folder_of : (absolute : Bool) (ss : List (List ℕ)) → AreKept ss → IsNormal (folder_of absolute ss)
unfolding folder_of
IsNormal-folder_of absolute [] k = IsNormal-path_of absolute [] tt
IsNormal-folder_of absolute (s ∷ ss) k = IsNormal-path_of absolute (front s ss) (AreKept-front s ss k)

pub IsNormal-folder : (path : List ℕ) → IsNormal path → IsNormal (folder path)
unfolding normal
IsNormal-folder path n =
    let kept = AreKept-segments path in
    let e : folder path ≡ folder_of (is_absolute path) (segments path) = ap folder (sym n) ∙ folder-path_of (is_absolute path) (segments path) kept in
    subst IsNormal (sym e) (IsNormal-folder_of (is_absolute path) (segments path) kept)

-- ---- what the code answers

pub folder_found : (path above : List ℕ) → list_any is_slash path ≡ true → above ≡ before_last is_slash path → or_root above ≡ folder path
unfolding folder
folder_found path above found e = ap or_root e ∙ sym (ap (λ b. cond b (or_root (before_last is_slash path)) (codes ".")) found)

pub folder_not_found : (path : List ℕ) → list_any is_slash path ≡ false → codes "." ≡ folder path
unfolding folder
folder_not_found path none = sym (ap (λ b. cond b (or_root (before_last is_slash path)) (codes ".")) none)
