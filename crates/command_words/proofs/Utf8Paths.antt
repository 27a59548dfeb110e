-- The normal form of UTF-8 text is UTF-8.
use Rattle.std.proofs.Common.{◌≡◌, ◌<◌, ◌≤◌, ℕ, zero, suc, Bool, true, false, List, [], ◌∷◌, ◌++◌, length, take, drop, get_or, All, refl, arith, lit<, inl, inr, length-drop}
use Rattle.std.specs.Prelude.{IsUtf8, ◌+◌, nat_lt, codes}
use Rattle.std.specs.Char.{encode_utf8}
use Rattle.std.specs.Str.{is_utf8, chars}
use Rattle.std.proofs.lemmas.Bool.Decides.{nat_tests}
use Rattle.std.specs.List.{slice_split, join_with_byte, position_or_len}
use Rattle.std.proofs.lemmas.Bool.{cases_Bool, eqb-true}
use Rattle.std.proofs.lemmas.List.Splits.{slice_split_first, slice_split_none}
use Rattle.std.proofs.lemmas.List.Sums.{passes_at_first, fails_before_first}
use Rattle.std.proofs.lemmas.List.Elements.{All-nil, All-cons, All-head, All-tail, All-filter, All-from_get_or}
use Rattle.std.proofs.lemmas.Str.{IsUtf8-nil, IsUtf8-append, IsUtf8-take, IsUtf8-drop, IsUtf8-from_is_utf8, IsCharBoundary-before_ascii, IsCharBoundary-after_ascii}
use Rattle.scan_model.specs.Paths.{is_slash, is_kept, segments, is_absolute, path_of, normal, join}

-- a text that begins at an ASCII byte's place, and one that begins after it
record IsCut (text : List ℕ) (i : ℕ) : Type 0 where
  front : IsUtf8 (take i text)
  back : IsUtf8 (drop (i + 1) text)

cut_at_slash : (text : List ℕ) (i : ℕ) → IsUtf8 text → i < length text → is_slash (get_or text i 0) ≡ true → IsCut text i
cut_at_slash text i utf8 inside slash =
    let is_47 : get_or text i 0 ≡ 47 = eqb-true (get_or text i 0) 47 slash in
    let ascii : get_or text i 0 < 128 = rw is_47 (lit< tt) in
    record {
      front = IsUtf8-take text i utf8 (IsCharBoundary-before_ascii text i inside ascii);
      back = IsUtf8-drop text (i + 1) utf8 (IsCharBoundary-after_ascii text i utf8 inside ascii);
    }

no_slash_left : (text : List ℕ) → length text ≤ position_or_len is_slash text → IsUtf8 text → All IsUtf8 (slice_split is_slash text)
no_slash_left text past utf8 =
    let no_slash : All (λ c. is_slash c ≡ false) text = All-from_get_or (λ c. is_slash c ≡ false) text 0 (λ k inside. fails_before_first is_slash text k 0 (omega arith)) in
    rw (slice_split_none is_slash text no_slash) (All-cons IsUtf8 text [] utf8 (All-nil IsUtf8))

utf8_segments : (n : ℕ) (text : List ℕ) → length text ≤ n → IsUtf8 text → All IsUtf8 (slice_split is_slash text)
utf8_segments zero text fits utf8 = no_slash_left text (omega arith) utf8
utf8_segments (suc n) text fits utf8 =
    let at = position_or_len is_slash text in
    elim (cases_Bool (nat_lt at (length text))) [
      | inr none ↦ no_slash_left text (grind (arith, nat_tests)) utf8
      | inl some ↦
          let inside : at < length text = grind (arith, nat_tests) in
          let cut = cut_at_slash text at utf8 inside (passes_at_first is_slash text 0 inside) in
          let shorter : length (drop (at + 1) text) ≤ n = rw (length-drop (at + 1) text) (omega arith) in
          rw (slice_split_first is_slash text 0 inside) (All-cons IsUtf8 (take at text) (slice_split is_slash (drop (at + 1) text)) cut.front (utf8_segments n (drop (at + 1) text) shorter cut.back))
    ]

IsUtf8-slash : IsUtf8 (47 ∷ [])
unfolding encode_utf8 is_utf8 chars
IsUtf8-slash = IsUtf8-from_is_utf8 (47 ∷ []) refl

utf8_joined : (parts : List (List ℕ)) → All IsUtf8 parts → IsUtf8 (join_with_byte 47 parts)
utf8_joined [] all = IsUtf8-nil
utf8_joined (part ∷ []) all = All-head IsUtf8 part [] all
utf8_joined (part ∷ next ∷ parts) all =
    IsUtf8-append part (47 ∷ join_with_byte 47 (next ∷ parts)) (All-head IsUtf8 part (next ∷ parts) all)
    (IsUtf8-append (47 ∷ []) (join_with_byte 47 (next ∷ parts)) IsUtf8-slash (utf8_joined (next ∷ parts) (All-tail IsUtf8 part (next ∷ parts) all)))

utf8_path_of : (absolute : Bool) (parts : List (List ℕ)) → All IsUtf8 parts → IsUtf8 (path_of absolute parts)
unfolding encode_utf8 is_utf8 chars
utf8_path_of true parts all = IsUtf8-append (47 ∷ []) (join_with_byte 47 parts) IsUtf8-slash (utf8_joined parts all)
utf8_path_of false [] all = IsUtf8-from_is_utf8 (codes ".") refl
utf8_path_of false (part ∷ parts) all = utf8_joined (part ∷ parts) all

pub normal-IsUtf8 : (path : List ℕ) → IsUtf8 path → IsUtf8 (normal path)
unfolding normal
normal-IsUtf8 path utf8 = utf8_path_of (is_absolute path) (segments path) (All-filter is_kept IsUtf8 (slice_split is_slash path) (utf8_segments (length path) path (omega arith) utf8))

pub join-IsUtf8 : (base name : List ℕ) → IsUtf8 base → IsUtf8 name → IsUtf8 (join base name)
unfolding join
join-IsUtf8 base name b n = elim (cases_Bool (is_absolute name)) [
  | inl absolute ↦ rw absolute (normal-IsUtf8 name n)
  | inr relative ↦ rw relative (normal-IsUtf8 (base ++ 47 ∷ name) (IsUtf8-append base (47 ∷ name) b (IsUtf8-append (47 ∷ []) name IsUtf8-slash n)))
]
