-- What begins a text and what begins its first line.
use Rattle.std.proofs.Common.{◌≡◌, ℕ, zero, suc, ◌<◌, ◌≤◌, Bool, true, false, not, ◌==◌, List, [], ◌∷◌, ◌++◌, refl, ap, sym, ◌∙◌, inl, inr, drop, length, length-append, get_or, arith}
use Rattle.std.proofs.lemmas.Bool.{and_parts, and_from, cases_Bool, eqb-false, ne_eqb, not-true}
use Rattle.std.proofs.lemmas.List.{append_assoc, append-nil}
use Rattle.std.proofs.lemmas.Str.{inside_one}
use Rattle.std.specs.List.{list_all}
use Rattle.std.specs.Char.{encode_utf8}
use Rattle.scan_model.specs.Tokens.{rest_of_line}
use Rattle.scan_model.proofs.RestLemmas.{rest_of_line-cons, rest_of_line-newline, rest_of_line-nil}

-- no byte is a newline
abbrev pub is_one_line : List ℕ → Bool
is_one_line s = list_all (λ c. not (c == 10)) s

pub rest_of_line-append : (xs t : List ℕ) → is_one_line xs ≡ true → rest_of_line (xs ++ t) ≡ xs ++ rest_of_line t
rest_of_line-append [] t h = refl
rest_of_line-append (x ∷ xs) t h =
    let both = and_parts (not (x == 10)) (is_one_line xs) h in
    rest_of_line-cons x (xs ++ t) (not-true (x == 10) both.0) ∙ ap (λ u. x ∷ u) (rest_of_line-append xs t both.1)

-- what follows the line
pub after_line : (t : List ℕ) → (more : List ℕ) × (t ≡ rest_of_line t ++ more)
after_line [] = ([], sym (append-nil (rest_of_line []) ∙ rest_of_line-nil))
after_line (c ∷ t) = elim (cases_Bool (c == 10)) [
  | inl e ↦ (c ∷ t, ap (λ u. u ++ c ∷ t) (sym (rest_of_line-newline c t e)))
  | inr e ↦ let more = after_line t in (more.0, ap (λ u. c ∷ u) more.1 ∙ ap (λ u. u ++ more.0) (sym (rest_of_line-cons c t e)))
]

pub is_one_line-rest_of_line : (t : List ℕ) → is_one_line (rest_of_line t) ≡ true
is_one_line-rest_of_line [] = ap is_one_line rest_of_line-nil
is_one_line-rest_of_line (c ∷ t) = elim (cases_Bool (c == 10)) [
  | inl e ↦ ap is_one_line (rest_of_line-newline c t e)
  | inr e ↦ ap is_one_line (rest_of_line-cons c t e) ∙ rw e (is_one_line-rest_of_line t)
]

-- the bytes of a character that is no newline
pub one_line-encode : (c : ℕ) → (c == 10) ≡ false → is_one_line (encode_utf8 c) ≡ true
one_line-encode c ne = by_place (encode_utf8 c) (λ k lt e. eqb-false c 10 ne (inside_one c [] (encode_utf8 c) k (sym (append-nil (encode_utf8 c))) lt (omega (arith, e)) ∙ e)) where
  by_place : (xs : List ℕ) → ((k : ℕ) → k < length xs → get_or xs k 0 ≡ 10 → ⊥) → is_one_line xs ≡ true
  by_place [] h = refl
  by_place (x ∷ xs) h = and_from (not (x == 10)) (is_one_line xs) (ap not (ne_eqb x 10 (λ e. h zero (omega arith) e))) (by_place xs (λ k lt e. h (suc k) (omega arith) e))

pub line-character : (c : ℕ) (t : List ℕ) → (c == 10) ≡ false → rest_of_line (encode_utf8 c ++ t) ≡ encode_utf8 c ++ rest_of_line t
line-character c t ne = rest_of_line-append (encode_utf8 c) t (one_line-encode c ne)

-- what begins the line begins the text
pub line_begins : (t xs ys : List ℕ) → rest_of_line t ≡ xs ++ ys → (more : List ℕ) × (t ≡ xs ++ more)
line_begins t xs ys e = let more = after_line t in (ys ++ more.0, more.1 ∙ ap (λ u. u ++ more.0) e ∙ append_assoc xs ys more.0)

pub length-rest_of_line : (t : List ℕ) → length (rest_of_line t) ≤ length t
length-rest_of_line t = let more = after_line t in let z : length t ≡ length (rest_of_line t ++ more.0) = ap length more.1 in omega (arith, z, length-append (rest_of_line t) more.0)

pub rest_of_line-drop : (t : List ℕ) (n : ℕ) → n ≤ length (rest_of_line t) → rest_of_line (drop n t) ≡ drop n (rest_of_line t)
rest_of_line-drop t zero h = refl
rest_of_line-drop [] (suc n) h = rest_of_line-nil ∙ ap (drop (suc n)) (sym rest_of_line-nil)
rest_of_line-drop (c ∷ t) (suc n) h = elim (cases_Bool (c == 10)) [
  | inl e ↦ absurd (let z : length (rest_of_line (c ∷ t)) ≡ 0 = ap length (rest_of_line-newline c t e) in omega arith)
  | inr e ↦ let z : length (rest_of_line (c ∷ t)) ≡ suc (length (rest_of_line t)) = ap length (rest_of_line-cons c t e) in
      rest_of_line-drop t n (omega arith) ∙ ap (drop (suc n)) (sym (rest_of_line-cons c t e))
]
