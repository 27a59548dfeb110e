-- The delimiter of a raw string.
use Rattle.std.proofs.Common.{◌≡◌, ◌≢◌, ℕ, zero, suc, ◌+◌, ◌<◌, ◌≤◌, Bool, true, false, not, ◌==◌, ◌&&◌, List, [], ◌∷◌, refl, ap, sym, ◌∙◌, inl, inr, take, length, get_or, arith}
use Rattle.std.proofs.lemmas.Bool.{and_parts, leb-true, and_left, and_right, and_from, cases_lt, eq-eqb, ne_eqb, le-leb, lt-leb, lt-ltb, le-ltb, true≢false}
use Rattle.std.proofs.lemmas.List.{get_or-take, length-take-le}
use Rattle.std.proofs.lemmas.List.Sums.{prefix_len-le-length, prefix_len_is, prefix_len_stops}
use Rattle.std.proofs.lemmas.List.Folds.{length-prefix_len}
use Rattle.std.specs.Prelude.{nat_le, nat_lt}
use Rattle.std.specs.List.{list_all, prefix_len}
use Rattle.scan_model.specs.Spelling.{delimiter, is_delimited}
use Rattle.lexeme_reader.specs.Raws.{in_delimiter, IsDelimiter}

-- the byte is no `(`
abbrev pub is_before : ℕ → Bool
is_before c = not (c == 40)

pub all_from : (p : ℕ → Bool) (xs : List ℕ) → ((k : ℕ) → k < length xs → p (get_or xs k 0) ≡ true) → list_all p xs ≡ true
all_from p [] h = refl
all_from p (x ∷ xs) h = and_from (p x) (list_all p xs) (h zero (omega arith)) (all_from p xs (λ k lt. h (suc k) (omega arith)))

all_fails : (p : ℕ → Bool) (xs : List ℕ) (k : ℕ) → k < length xs → p (get_or xs k 0) ≡ false → list_all p xs ≡ false
all_fails p [] k lt h = absurd (omega arith)
all_fails p (x ∷ xs) zero lt h = and_left (p x) (list_all p xs) h
all_fails p (x ∷ xs) (suc k) lt h = and_right (p x) (list_all p xs) (all_fails p xs k (omega arith) h)

length-delimiter : (s : List ℕ) → length (delimiter s) ≡ prefix_len is_before s
length-delimiter s = length-prefix_len is_before s

pub delimiter_found : (s : List ℕ) (i : ℕ) → i < length s → i ≤ 16 → ((k : ℕ) → k < i → in_delimiter (get_or s k 0) ≡ true) → ((k : ℕ) → k < i → is_before (get_or s k 0) ≡ true) → get_or s i 0 ≡ 40 → IsDelimiter i s
unfolding is_delimited
delimiter_found s i lt few good before here =
    let n : prefix_len is_before s ≡ i = prefix_len_is is_before s i 0 (omega arith) before (λ z. ap not (eq-eqb (get_or s i 0) 40 here)) in
    let len : length (delimiter s) ≡ i = length-delimiter s ∙ n in
    let same : delimiter s ≡ take i s = ap (λ k. take k s) n in
    let all : list_all in_delimiter (delimiter s) ≡ true =
    all_from in_delimiter (delimiter s) (λ k below. ap (λ t. in_delimiter (get_or t k 0)) same ∙ ap in_delimiter (get_or-take i s k 0 (omega arith)) ∙ good k (omega arith)) in
    record {
      within = lt;
      good = and_from (nat_le (length (delimiter s)) 16 && list_all in_delimiter (delimiter s)) (nat_lt (length (delimiter s)) (length s))
          (and_from (nat_le (length (delimiter s)) 16) (list_all in_delimiter (delimiter s)) (le-leb (length (delimiter s)) 16 (omega arith)) all)
          (lt-ltb (length (delimiter s)) (length s) (omega arith));
      bytes_are = same;
    }

-- no `(` among the first bytes
later : (s : List ℕ) (i : ℕ) → i ≤ length s → ((k : ℕ) → k < i → is_before (get_or s k 0) ≡ true) → i ≤ prefix_len is_before s
later s i le before = elim (cases_lt (prefix_len is_before s) i) [
  | inl lt ↦ absurd (true≢false (sym (before (prefix_len is_before s) lt) ∙ prefix_len_stops is_before s 0 (omega arith)))
  | inr ge ↦ ge
]

one_more : (s : List ℕ) (i : ℕ) → ((k : ℕ) → k < i → is_before (get_or s k 0) ≡ true) → is_before (get_or s i 0) ≡ true → (k : ℕ) → k < i + 1 → is_before (get_or s k 0) ≡ true
one_more s i before here k lt = elim (cases_lt k i) [ inl below ↦ before k below | inr above ↦ let e : k ≡ i = omega arith in ap (λ j. is_before (get_or s j 0)) e ∙ here ]

pub delimiter_bad : (s : List ℕ) (i : ℕ) → i < length s → ((k : ℕ) → k < i → is_before (get_or s k 0) ≡ true) → get_or s i 0 ≢ 40 → in_delimiter (get_or s i 0) ≡ false → is_delimited s ≡ false
unfolding is_delimited
delimiter_bad s i lt before ne bad =
    let more : i + 1 ≤ prefix_len is_before s = later s (i + 1) (omega arith) (one_more s i before (ap not (ne_eqb (get_or s i 0) 40 ne))) in
    let len = length-delimiter s in
    and_left (nat_le (length (delimiter s)) 16 && list_all in_delimiter (delimiter s)) (nat_lt (length (delimiter s)) (length s))
    (and_right (nat_le (length (delimiter s)) 16) (list_all in_delimiter (delimiter s))
    (all_fails in_delimiter (delimiter s) i (omega arith) (ap in_delimiter (get_or-take (prefix_len is_before s) s i 0 (omega arith)) ∙ bad)))

-- no `(` among the first 17 bytes, or none at all
pub delimiter_long : (s : List ℕ) (i : ℕ) → i ≤ length s → (i < length s → 17 ≤ i) → ((k : ℕ) → k < i → is_before (get_or s k 0) ≡ true) → is_delimited s ≡ false
unfolding is_delimited
delimiter_long s i le long before =
    let more = later s i le before in
    let len = length-delimiter s in
    let most = prefix_len-le-length is_before s in
    elim (cases_lt i (length s)) [
      | inl lt ↦ let seventeen = long lt in and_left (nat_le (length (delimiter s)) 16 && list_all in_delimiter (delimiter s)) (nat_lt (length (delimiter s)) (length s))
          (and_left (nat_le (length (delimiter s)) 16) (list_all in_delimiter (delimiter s)) (lt-leb (length (delimiter s)) 16 (omega arith)))
      | inr all ↦ and_right (nat_le (length (delimiter s)) 16 && list_all in_delimiter (delimiter s)) (nat_lt (length (delimiter s)) (length s)) (le-ltb (length (delimiter s)) (length s) (omega arith))
    ]

-- a good one is short
pub delimiter_short : (s : List ℕ) (len : ℕ) → IsDelimiter len s → len ≤ 16
unfolding is_delimited
delimiter_short s len is =
    let d = delimiter s in
    let both = and_parts (nat_le (length d) 16 && list_all in_delimiter d) (nat_lt (length d) (length s)) is.good in
    let few = leb-true (length d) 16 (and_parts (nat_le (length d) 16) (list_all in_delimiter d) both.0).0 in
    omega (arith, few, ap length is.bytes_are, length-take-le len s (omega (arith, is.within)))
