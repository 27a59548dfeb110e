-- A path that is written from segments is in normal form, and has those segments.
use Rattle.std.proofs.Common.{◌≡◌, ◌<◌, ℕ, Bool, true, false, cond, List, [], ◌∷◌, ◌++◌, length, filter, All, ap, ◌∙◌, refl, sym, arith}
use Rattle.std.specs.List.{slice_split, join_with_byte, onto_first}
use Rattle.std.proofs.lemmas.List.Splits.{slice_split_at, slice_split_none, slice_split-cons_yes, slice_split-cons_no, length-slice_split}
use Rattle.std.proofs.lemmas.List.Elements.{All-nil, All-cons, All-head, filter-append}
use Rattle.scan_model.specs.Paths.{is_slash, is_kept, segments, is_absolute, path_of, normal, IsNormal}

abbrev pub HasNoSlash : List ℕ → Type 0
HasNoSlash s = All (λ c. is_slash c ≡ false) s

-- parts without a slash
abbrev AreCut : List (List ℕ) → Type 0
AreCut [] = Unit {0}
AreCut (s ∷ ss) = HasNoSlash s × AreCut ss

-- the same, and each stays
abbrev pub AreKept : List (List ℕ) → Type 0
AreKept [] = Unit {0}
AreKept (s ∷ ss) = HasNoSlash s × (is_kept s ≡ true) × AreKept ss

cut_onto : (b : ℕ) (ps : List (List ℕ)) → is_slash b ≡ false → AreCut ps → AreCut (onto_first b ps)
cut_onto b [] e c = (All-cons (λ x. is_slash x ≡ false) b [] e (All-nil _), tt)
cut_onto b (s ∷ ss) e c = (All-cons (λ x. is_slash x ≡ false) b s e c.0, c.1)

cut_by : (b : ℕ) (bs : List ℕ) (t : Bool) → is_slash b ≡ t → AreCut (slice_split is_slash bs) → AreCut (slice_split is_slash (b ∷ bs))
cut_by b bs true e c = rw (slice_split-cons_yes is_slash b bs e) (All-nil _, c)
cut_by b bs false e c = rw (slice_split-cons_no is_slash b bs e) (cut_onto b (slice_split is_slash bs) e c)

cut_parts : (text : List ℕ) → AreCut (slice_split is_slash text)
cut_parts [] = (All-nil _, tt)
cut_parts (b ∷ bs) = cut_by b bs (is_slash b) refl (cut_parts bs)

kept_by : (s : List ℕ) (ss : List (List ℕ)) (t : Bool) → is_kept s ≡ t → HasNoSlash s → AreKept (filter is_kept ss) → AreKept (cond t (s ∷ filter is_kept ss) (filter is_kept ss))
kept_by s ss true e c k = (c, e, k)
kept_by s ss false e c k = k

kept_parts : (ps : List (List ℕ)) → AreCut ps → AreKept (filter is_kept ps)
kept_parts [] c = tt
kept_parts (s ∷ ss) c = kept_by s ss (is_kept s) refl c.0 (kept_parts ss c.1)

pub AreKept-segments : (text : List ℕ) → AreKept (segments text)
AreKept-segments text = kept_parts (slice_split is_slash text) (cut_parts text)

filter_kept : (ss : List (List ℕ)) → AreKept ss → filter is_kept ss ≡ ss
filter_kept [] k = refl
filter_kept (s ∷ ss) k = rw k.1 (ap (λ zs. s ∷ zs) (filter_kept ss k.2))

split_join : (s : List ℕ) (ss : List (List ℕ)) → AreKept (s ∷ ss) → slice_split is_slash (join_with_byte 47 (s ∷ ss)) ≡ s ∷ ss
split_join s [] k = slice_split_none is_slash s k.0
split_join s (t ∷ ts) k = slice_split_at is_slash s 47 (join_with_byte 47 (t ∷ ts)) k.0 refl ∙ ap (λ zs. s ∷ zs) (split_join t ts k.2)

segments_join : (ss : List (List ℕ)) → AreKept ss → segments (join_with_byte 47 ss) ≡ ss
segments_join [] k = refl
segments_join (s ∷ ss) k = ap (filter is_kept) (split_join s ss k) ∙ filter_kept (s ∷ ss) k

relative : (s : List ℕ) (ss : List (List ℕ)) → AreKept (s ∷ ss) → is_absolute (join_with_byte 47 (s ∷ ss)) ≡ false
relative [] ss k = cc
relative (b ∷ bs) [] k = All-head (λ x. is_slash x ≡ false) b bs k.0
relative (b ∷ bs) (t ∷ ts) k = All-head (λ x. is_slash x ≡ false) b bs k.0

pub IsNormal-path_of : (absolute : Bool) (ss : List (List ℕ)) → AreKept ss → IsNormal (path_of absolute ss)
unfolding normal
IsNormal-path_of true ss k = ap (path_of true) (segments_join ss k)
IsNormal-path_of false [] k = refl
IsNormal-path_of false (s ∷ ss) k = rw (relative s ss k) (ap (path_of false) (segments_join (s ∷ ss) k))

onto_first-append : (b : ℕ) (ps qs : List (List ℕ)) → 0 < length ps → onto_first b (ps ++ qs) ≡ onto_first b ps ++ qs
onto_first-append b [] qs some = absurd (omega arith)
onto_first-append b (p ∷ ps) qs some = refl

split_below_by : (b : ℕ) (bs below : List ℕ) (t : Bool) → is_slash b ≡ t → slice_split is_slash (bs ++ 47 ∷ below) ≡ slice_split is_slash bs ++ slice_split is_slash below → slice_split is_slash (b ∷ (bs ++ 47 ∷ below)) ≡ slice_split is_slash (b ∷ bs) ++ slice_split is_slash below
split_below_by b bs below true e more = slice_split-cons_yes is_slash b (bs ++ 47 ∷ below) e ∙ (ap (λ ps. [] ∷ ps) more ∙ ap (λ ps. ps ++ slice_split is_slash below) (sym (slice_split-cons_yes is_slash b bs e)))
split_below_by b bs below false e more = slice_split-cons_no is_slash b (bs ++ 47 ∷ below) e ∙ (ap (onto_first b) more ∙ (onto_first-append b (slice_split is_slash bs) (slice_split is_slash below) (omega (arith, length-slice_split is_slash bs)) ∙ ap (λ ps. ps ++ slice_split is_slash below) (sym (slice_split-cons_no is_slash b bs e))))

split_below : (above below : List ℕ) → slice_split is_slash (above ++ 47 ∷ below) ≡ slice_split is_slash above ++ slice_split is_slash below
split_below [] below = refl
split_below (b ∷ bs) below = split_below_by b bs below (is_slash b) refl (split_below bs below)

-- the segments of two texts with a slash between them
pub segments_below : (above below : List ℕ) → segments (above ++ 47 ∷ below) ≡ segments above ++ segments below
segments_below above below = ap (filter is_kept) (split_below above below) ∙ filter-append is_kept (slice_split is_slash above) (slice_split is_slash below)
