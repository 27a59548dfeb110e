-- What is written segment by segment is a path in normal form.
use Rattle.std.proofs.Common.{◌≡◌, ℕ, Bool, true, false, cond, List, [], ◌∷◌, ◌++◌, codes, filter, map, fold, ap, ◌∙◌, refl, sym, append_assoc}
use Rattle.std.specs.Borrow.{Bor}
use Rattle.std.specs.List.{join_with_byte}
use Rattle.std.proofs.lemmas.List.{append-nil}
use Rattle.std.proofs.lemmas.List.Elements.{All-head}
use Rattle.scan_model.specs.Paths.{is_slash, is_kept, segments, is_absolute, path_of, normal, IsNormal, join}
use Rattle.path_search.specs.Writing.{is_bare, with_segment, with_segments, or_here}
use Rattle.path_search.proofs.NormalLemmas.{AreKept, AreKept-segments, segments_below, IsNormal-path_of}

-- ---- the loop over a text's parts

-- what is written after these parts
abbrev pub after_parts : List ℕ → List (Bor (List ℕ)) → List ℕ
after_parts start parts = fold with_segment start (filter is_kept (map (λ s. s.now) parts))

-- ---- what is written after segments

-- these segments, from the root or not; nothing where there is neither
abbrev pub written : Bool → List (List ℕ) → List ℕ
written true ss = 47 ∷ join_with_byte 47 ss
written false ss = join_with_byte 47 ss

join_more : (y : List ℕ) (ys : List (List ℕ)) (x : List ℕ) → join_with_byte 47 ((y ∷ ys) ++ x ∷ []) ≡ join_with_byte 47 (y ∷ ys) ++ 47 ∷ x
join_more y [] x = refl
join_more y (z ∷ zs) x = ap (λ w. y ++ 47 ∷ w) (join_more z zs x) ∙ sym (append_assoc y (47 ∷ join_with_byte 47 (z ∷ zs)) (47 ∷ x))

is_bare_absolute : (s : List ℕ) (ss : List (List ℕ)) → AreKept (s ∷ ss) → is_bare (47 ∷ join_with_byte 47 (s ∷ ss)) ≡ false
is_bare_absolute [] ss k = cc
is_bare_absolute (c ∷ cs) [] k = refl
is_bare_absolute (c ∷ cs) (t ∷ ts) k = refl

is_bare_relative : (s : List ℕ) (ss : List (List ℕ)) → AreKept (s ∷ ss) → is_bare (join_with_byte 47 (s ∷ ss)) ≡ false
is_bare_relative [] ss k = cc
is_bare_relative (c ∷ []) [] k = All-head (λ x. is_slash x ≡ false) c [] k.0
is_bare_relative (c ∷ d ∷ cs) [] k = refl
is_bare_relative (c ∷ []) (t ∷ ts) k = refl
is_bare_relative (c ∷ d ∷ cs) (t ∷ ts) k = refl

written_more : (absolute : Bool) (ss : List (List ℕ)) (s : List ℕ) → AreKept ss → with_segment (written absolute ss) s ≡ written absolute (ss ++ s ∷ [])
written_more true [] s k = refl
written_more false [] s k = refl
written_more true (t ∷ ts) s k = let path = written true (t ∷ ts) in ap (λ b. cond b (path ++ s) (path ++ 47 ∷ s)) (is_bare_absolute t ts k) ∙ ap (λ w. 47 ∷ w) (sym (join_more t ts s))
written_more false (t ∷ ts) s k = let path = written false (t ∷ ts) in ap (λ b. cond b (path ++ s) (path ++ 47 ∷ s)) (is_bare_relative t ts k) ∙ sym (join_more t ts s)

AreKept-append : (ss ts : List (List ℕ)) → AreKept ss → AreKept ts → AreKept (ss ++ ts)
AreKept-append [] ts k l = l
AreKept-append (s ∷ ss) ts k l = (k.0, k.1, AreKept-append ss ts k.2 l)

written_all : (absolute : Bool) (ss ts : List (List ℕ)) → AreKept ss → AreKept ts → fold with_segment (written absolute ss) ts ≡ written absolute (ss ++ ts)
written_all absolute ss [] k l = ap (written absolute) (sym (append-nil ss))
written_all absolute ss (t ∷ ts) k l =
    ap (λ p. fold with_segment p ts) (written_more absolute ss t k)
    ∙ (written_all absolute (ss ++ t ∷ []) ts (AreKept-append ss (t ∷ []) k (l.0, l.1, tt)) l.2 ∙ ap (written absolute) (append_assoc ss (t ∷ []) ts))

or_here-written : (absolute : Bool) (ss : List (List ℕ)) → AreKept ss → or_here (written absolute ss) ≡ path_of absolute ss
or_here-written true ss k = refl
or_here-written false [] k = refl
or_here-written false ([] ∷ ss) k = cc
or_here-written false ((c ∷ cs) ∷ []) k = refl
or_here-written false ((c ∷ cs) ∷ t ∷ ts) k = refl

-- ---- `normal` and `join`

root : (absolute : Bool) → cond absolute (codes "/") [] ≡ written absolute []
root true = refl
root false = refl

pub normal_is : (start text : List ℕ) → start ≡ cond (is_absolute text) (codes "/") [] → or_here (with_segments start text) ≡ normal text
unfolding normal
normal_is start text e =
    let kept = AreKept-segments text in
    ap or_here (ap (λ p. with_segments p text) (e ∙ root (is_absolute text)) ∙ written_all (is_absolute text) [] (segments text) tt kept) ∙ or_here-written (is_absolute text) (segments text) kept

-- a base is the text of its segments, and none where it is `.`
start_written : (absolute : Bool) (ss : List (List ℕ)) → AreKept ss → (let base = path_of absolute ss in cond (is_kept base) base []) ≡ written absolute ss
start_written true [] k = refl
start_written true ([] ∷ ss) k = cc
start_written true ((c ∷ cs) ∷ []) k = refl
start_written true ((c ∷ cs) ∷ t ∷ ts) k = refl
start_written false [] k = refl
start_written false ([] ∷ ss) k = cc
start_written false ((c ∷ []) ∷ []) k = ap (λ b. cond b (c ∷ []) []) k.1
start_written false ((c ∷ d ∷ cs) ∷ []) k = refl
start_written false ((c ∷ []) ∷ t ∷ ts) k = refl
start_written false ((c ∷ d ∷ cs) ∷ t ∷ ts) k = refl

is_absolute_below : (base name : List ℕ) → IsNormal base → is_absolute (base ++ 47 ∷ name) ≡ is_absolute base
unfolding normal
is_absolute_below [] name n = cc
is_absolute_below (c ∷ cs) name n = refl

below_is : (base start name : List ℕ) → IsNormal base → start ≡ cond (is_kept base) base [] → or_here (with_segments start name) ≡ normal (base ++ 47 ∷ name)
unfolding normal
below_is base start name n e =
    let absolute = is_absolute base in
    let kept = AreKept-segments base in
    let more = AreKept-segments name in
    let begun : start ≡ written absolute (segments base) = e ∙ (ap (λ p. cond (is_kept p) p []) (sym n) ∙ start_written absolute (segments base) kept) in
    ap or_here (ap (λ p. with_segments p name) begun ∙ written_all absolute (segments base) (segments name) kept more)
    ∙ (or_here-written absolute (segments base ++ segments name) (AreKept-append (segments base) (segments name) kept more)
    ∙ (ap (λ a. path_of a (segments base ++ segments name)) (sym (is_absolute_below base name n)) ∙ ap (path_of (is_absolute (base ++ 47 ∷ name))) (sym (segments_below base name))))

pub join_is : (base start name : List ℕ) → IsNormal base → start ≡ cond (is_kept base) base [] → is_absolute name ≡ false → or_here (with_segments start name) ≡ join base name
unfolding join
join_is base start name n e relative = below_is base start name n e ∙ sym (ap (λ a. cond a (normal name) (normal (base ++ 47 ∷ name))) relative)

pub join_absolute : (base name : List ℕ) → is_absolute name ≡ true → normal name ≡ join base name
unfolding join
join_absolute base name absolute = sym (ap (λ a. cond a (normal name) (normal (base ++ 47 ∷ name))) absolute)

pub IsNormal-normal : (text : List ℕ) → IsNormal (normal text)
unfolding normal
IsNormal-normal text = IsNormal-path_of (is_absolute text) (segments text) (AreKept-segments text)

pub IsNormal-join : (base name : List ℕ) → is_absolute name ≡ false → IsNormal (join base name)
unfolding join
IsNormal-join base name relative = rw relative (IsNormal-normal (base ++ 47 ∷ name))
