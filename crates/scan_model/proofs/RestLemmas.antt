-- The rest of a logical line.
use Rattle.std.proofs.Common.{◌≡◌, ℕ, zero, suc, ◌+◌, ◌≤◌, true, false, ◌==◌, List, [], ◌∷◌, refl, ap, ◌∙◌, inl, inr, take, length, arith}
use Rattle.std.proofs.lemmas.Bool.{cases_Bool}
use Rattle.scan_model.specs.Tokens.{rest_of_line}

pub rest_of_line-cons : (c : ℕ) (t : List ℕ) → (c == 10) ≡ false → rest_of_line (c ∷ t) ≡ c ∷ rest_of_line t
unfolding rest_of_line
rest_of_line-cons c t h = rw h refl

pub rest_of_line-newline : (c : ℕ) (t : List ℕ) → (c == 10) ≡ true → rest_of_line (c ∷ t) ≡ []
unfolding rest_of_line
rest_of_line-newline c t h = rw h refl

pub rest_of_line-nil : rest_of_line [] ≡ []
unfolding rest_of_line
rest_of_line-nil = refl

pub take-rest_of_line : (t : List ℕ) (n : ℕ) → n ≤ length (rest_of_line t) → take n (rest_of_line t) ≡ take n t
take-rest_of_line t zero h = refl
take-rest_of_line [] (suc n) h = ap (take (suc n)) rest_of_line-nil
take-rest_of_line (c ∷ t) (suc n) h = elim (cases_Bool (c == 10)) [
  | inl e ↦ absurd (let z : length (rest_of_line (c ∷ t)) ≡ 0 = ap length (rest_of_line-newline c t e) in omega arith)
  | inr e ↦ let z : length (rest_of_line (c ∷ t)) ≡ suc (length (rest_of_line t)) = ap length (rest_of_line-cons c t e) in
      ap (take (suc n)) (rest_of_line-cons c t e) ∙ ap (λ u. c ∷ u) (take-rest_of_line t n (omega arith))
]
