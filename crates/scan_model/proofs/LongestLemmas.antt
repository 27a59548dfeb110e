-- The longest front that passes, and tests on the words of a list.
use Rattle.std.proofs.Common.{◌≡◌, ℕ, zero, suc, ◌+◌, ◌<◌, ◌≤◌, Bool, true, false, ◌&&◌, List, [], ◌∷◌, refl, ap, sym, ◌∙◌, inl, inr, take, length, arith, codes, nat_eq}
use Rattle.std.proofs.lemmas.Bool.{or_cases, and_parts, cases_eq, eqb-true, cond_both}
use Rattle.std.specs.List.{list_all}
use lib.Pointwise.{pointwise}
use Prim.Native.String.{String}
use Rattle.scan_model.specs.Spelling.{longest_up_to, longest, is_one_of, spells}

up_to : (p : List ℕ → Bool) (s : List ℕ) (n k : ℕ) → k ≤ n → (0 < k → p (take k s) ≡ true) → ((m : ℕ) → k < m → m ≤ n → p (take m s) ≡ false) → longest_up_to p s n ≡ k
up_to p s zero k h some none = omega arith
up_to p s (suc n) k h some none = elim (cases_eq k (suc n)) [
  | inl e ↦ let passes : p (take (suc n) s) ≡ true = ap (λ j. p (take j s)) (sym e) ∙ some (omega arith) in rw passes (sym e)
  | inr ne ↦ rw (none (suc n) (omega arith) (omega arith)) (up_to p s n k (omega arith) some (λ m lt le. none m lt (omega arith)))
]

-- a front that passes, beyond which none does
pub longest_is : (p : List ℕ → Bool) (s : List ℕ) (k : ℕ) → k ≤ length s → (0 < k → p (take k s) ≡ true) → ((m : ℕ) → k < m → m ≤ length s → p (take m s) ≡ false) → longest p s ≡ k
unfolding longest
longest_is p s k h some none = up_to p s (length s) k h some none

pub pointwise_same : (xs ys : List ℕ) → pointwise nat_eq xs ys ≡ true → xs ≡ ys
pointwise_same [] [] h = refl
pointwise_same [] (y ∷ ys) h = cc
pointwise_same (x ∷ xs) [] h = cc
pointwise_same (x ∷ xs) (y ∷ ys) h =
    let both = and_parts (nat_eq x y) (pointwise nat_eq xs ys) h in
    let first : x ≡ y = eqb-true x y both.0 in
    let rest : xs ≡ ys = pointwise_same xs ys both.1 in
    cc

-- what each of the words passes, a spelling among them passes
pub one_of_passes : (p : List ℕ → Bool) (words : List String) → list_all (λ word. p (codes word)) words ≡ true → (s : List ℕ) → is_one_of words s ≡ true → p s ≡ true
one_of_passes p [] all s h = cc
one_of_passes p (word ∷ words) all s h =
    let both = and_parts (p (codes word)) (list_all (λ word. p (codes word)) words) all in
    elim (or_cases (spells word s) (is_one_of words s) h) [
      | inl e ↦ ap p (sym (pointwise_same (codes word) s e)) ∙ both.0
      | inr e ↦ one_of_passes p words both.1 s e
    ]

-- what the longest front is
pub up_to_le : (p : List ℕ → Bool) (s : List ℕ) (n : ℕ) → longest_up_to p s n ≤ n
up_to_le p s zero = omega arith
up_to_le p s (suc n) = let k = up_to_le p s n in cond_both (p (take (suc n) s)) (suc n) (longest_up_to p s n) (λ j. j ≤ suc n) (λ e. omega arith) (λ e. omega arith)

up_to_passes : (p : List ℕ → Bool) (s : List ℕ) (n : ℕ) → 0 < longest_up_to p s n → p (take (longest_up_to p s n) s) ≡ true
up_to_passes p s zero h = absurd (omega (arith, h))
up_to_passes p s (suc n) h =
    cond_both (p (take (suc n) s)) (suc n) (longest_up_to p s n) (λ j. 0 < j → p (take j s) ≡ true) (λ e z. e) (λ e z. up_to_passes p s n z) h

up_to_beyond : (p : List ℕ → Bool) (s : List ℕ) (n m : ℕ) → longest_up_to p s n < m → m ≤ n → p (take m s) ≡ false
up_to_beyond p s zero m h le = absurd (omega (arith, h))
up_to_beyond p s (suc n) m h le =
    cond_both (p (take (suc n) s)) (suc n) (longest_up_to p s n) (λ j. j < m → p (take m s) ≡ false) (λ e z. absurd (omega arith))
    (λ e z. elim (cases_eq m (suc n)) [ inl same ↦ ap (λ j. p (take j s)) same ∙ not_true e | inr other ↦ up_to_beyond p s n m z (omega arith) ]) h where
      not_true : {b : Bool} → b ≡ false → b ≡ false
      not_true e = e

pub longest_le : (p : List ℕ → Bool) (s : List ℕ) → longest p s ≤ length s
unfolding longest
longest_le p s = up_to_le p s (length s)

pub longest_passes : (p : List ℕ → Bool) (s : List ℕ) → 0 < longest p s → p (take (longest p s) s) ≡ true
unfolding longest
longest_passes p s h = up_to_passes p s (length s) h

pub longest_beyond : (p : List ℕ → Bool) (s : List ℕ) (m : ℕ) → longest p s < m → m ≤ length s → p (take m s) ≡ false
unfolding longest
longest_beyond p s m h le = up_to_beyond p s (length s) m h le
