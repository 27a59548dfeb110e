-- Digits counted one by one, and the number that they write.
use Rattle.std.proofs.Common.{◌≡◌, ℕ, ◌+◌, ◌*◌, ◌^◌, ◌<◌, ◌≤◌, zero, suc, Bool, true, false, cond, ◌&&◌, ◌||◌, List, [], ◌∷◌, length, take, drop, get_or, refl, ap, sym, ◌∙◌, arith}
use Rattle.std.specs.Prelude.{Some, None, ◌==◌, nat_lt}
use Rattle.std.specs.List.{fold, filter, prefix_len}
use Rattle.std.proofs.Math.Nat.{mul-le-mul_left}
use Rattle.scan_model.specs.Spelling.{first}
use Rattle.scan_model.specs.Literals.{digit_value, is_digit, is_hex_digit, digits_len, number_of, integer_in, integer_value}
use Rattle.if_values.specs.Digits.{goes_on, fitting}

len_yes : (base c : ℕ) (s : List ℕ) (t u : Bool) → is_digit base c ≡ t → (c == 39 && is_digit base (first s)) ≡ u → (t || u) ≡ true → digits_len base (c ∷ s) ≡ 1 + digits_len base s
len_yes base c s true u e f h = rw e refl
len_yes base c s false true e f h = rw (e, f) refl
len_yes base c s false false e f h = cc

pub digits_len-more : (base : ℕ) (s : List ℕ) (n : ℕ) → goes_on base (drop n s) ≡ true → digits_len base (drop n s) ≡ 1 + digits_len base (drop (suc n) s)
digits_len-more base [] zero h = cc
digits_len-more base [] (suc n) h = cc
digits_len-more base (c ∷ s) zero h = len_yes base c s (is_digit base c) (c == 39 && is_digit base (first s)) refl refl h
digits_len-more base (c ∷ s) (suc n) h = digits_len-more base s n h

pub goes_on-within : (base : ℕ) (s : List ℕ) (n : ℕ) → goes_on base (drop n s) ≡ true → n < length s
goes_on-within base [] zero h = cc
goes_on-within base [] (suc n) h = cc
goes_on-within base (c ∷ s) zero h = omega arith
goes_on-within base (c ∷ s) (suc n) h = let k = goes_on-within base s n h in omega arith

-- ---- the number

abbrev pub with_digit : ℕ → ℕ → ℕ → ℕ
with_digit base n c = n * base + digit_value c

with_digit_grows : (base n c : ℕ) → 0 < base → n ≤ with_digit base n c
with_digit_grows base n c h = let one : 1 ≤ base = omega arith in omega (arith, mul-le-mul_left n one)

grows : (base a : ℕ) (ds : List ℕ) → 0 < base → a ≤ fold (with_digit base) a ds
grows base a [] h = omega arith
grows base a (d ∷ ds) h = let one = with_digit_grows base a d h in let more = grows base (with_digit base a d) ds h in omega (arith, one, more)

mutual_more : (base a c : ℕ) (s : List ℕ) (i : ℕ) (t : Bool) → is_digit base c ≡ t
    → ((b : ℕ) → with_digit base (fold (with_digit base) b (filter (is_digit base) (take i s))) (get_or s i 0) ≤ fold (with_digit base) b (filter (is_digit base) s))
    → with_digit base (fold (with_digit base) a (cond t (c ∷ filter (is_digit base) (take i s)) (filter (is_digit base) (take i s)))) (get_or s i 0) ≤ fold (with_digit base) a (cond t (c ∷ filter (is_digit base) s) (filter (is_digit base) s))
mutual_more base a c s i true e h = h (with_digit base a c)
mutual_more base a c s i false e h = h a

number_more : (base a : ℕ) (s : List ℕ) (i : ℕ) → 0 < base → i < length s → is_digit base (get_or s i 0) ≡ true → with_digit base (fold (with_digit base) a (filter (is_digit base) (take i s))) (get_or s i 0) ≤ fold (with_digit base) a (filter (is_digit base) s)
number_more base a [] i h k e = absurd (omega arith)
number_more base a (c ∷ s) zero h k e = rw e (grows base (with_digit base a c) (filter (is_digit base) s) h)
number_more base a (c ∷ s) (suc i) h k e = let l : i < length s = omega arith in mutual_more base a c s i (is_digit base c) refl (λ b. number_more base b s i h l e)

pub number_of-reaches : (base : ℕ) (s : List ℕ) (i : ℕ) → 0 < base → i < length s → is_digit base (get_or s i 0) ≡ true → number_of base (take i s) * base + digit_value (get_or s i 0) ≤ number_of base s
number_of-reaches base s i h k e = number_more base 0 s i h k e

-- ---- what fits

fits_by : (n : ℕ) (t : Bool) → nat_lt n (2 ^ 64) ≡ t → cond t (Some n) None ≡ None → 2 ^ 64 ≤ n
fits_by n true e h = cc
fits_by n false e h = grind (arith, e)

pub fitting-none : (n : ℕ) → fitting n ≡ None → 2 ^ 64 ≤ n
fitting-none n h = fits_by n (nat_lt n (2 ^ 64)) refl h

pub fitting-past : (m n : ℕ) → 2 ^ 64 ≤ m → m ≤ n → None ≡ fitting n
fitting-past m n h k = let e : nat_lt n (2 ^ 64) ≡ false = grind arith in rw e refl

pub fitting-is : (n : ℕ) → n < 2 ^ 64 → Some n ≡ fitting n
fitting-is n h = let e : nat_lt n (2 ^ 64) ≡ true = grind arith in rw e refl

digit_by : (base c v : ℕ) (t : Bool) → Some v ≡ cond t (Some (digit_value c)) None → (t ≡ true) × (v ≡ digit_value c)
digit_by base c v true e = (refl, cc)
digit_by base c v false e = cc

-- one more digit is too many
pub number-overflows : (base n v i : ℕ) (s : List ℕ) → 0 < base → i < length s → n ≡ number_of base (take i s) → Some v ≡ cond (is_digit base (get_or s i 0)) (Some (digit_value (get_or s i 0))) None → None ≡ fitting (n * base + v) → None ≡ fitting (number_of base s)
number-overflows base n v i s h k e d f =
    let digit = digit_by base (get_or s i 0) v (is_digit base (get_or s i 0)) d in
    let past : 2 ^ 64 ≤ number_of base (take i s) * base + digit_value (get_or s i 0) = fitting-none _ (sym (f ∙ (ap (λ m. fitting (m * base + v)) e ∙ ap (λ w. fitting (number_of base (take i s) * base + w)) digit.1))) in
    fitting-past _ (number_of base s) past (number_of-reaches base s i h k digit.0)

fitting_by : (b n : ℕ) (t : Bool) → Some b ≡ cond t (Some n) None → b ≡ n
fitting_by b n true e = cc
fitting_by b n false e = cc

pub fitting-some : (b n : ℕ) → Some b ≡ fitting n → b ≡ n
fitting-some b n e = fitting_by b n (nat_lt n (2 ^ 64)) e

pub integer_in-some : (base n b : ℕ) (s : List ℕ) → is_digit base (first s) ≡ true → n ≡ digits_len base s → Some b ≡ fitting (number_of base (take n s)) → integer_value b (drop n s) ≡ integer_in base s
integer_in-some base n b s d e f = rw (d, ← e) (ap (λ m. integer_value m (drop n s)) (fitting-some b _ f))

pub hex_digit : (c : ℕ) → is_digit 16 c ≡ is_hex_digit c
hex_digit c = grind arith

pub hex_digits_len : (s : List ℕ) → prefix_len (is_digit 16) s ≡ prefix_len is_hex_digit s
hex_digits_len [] = refl
hex_digits_len (c ∷ s) = ap (λ b. cond b (1 + prefix_len (is_digit 16) s) 0) (hex_digit c) ∙ ap (λ n. cond (is_hex_digit c) (1 + n) 0) (hex_digits_len s)
