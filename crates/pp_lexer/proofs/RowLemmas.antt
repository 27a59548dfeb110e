-- The longest punctuator is the longest row of the table.
use Rattle.std.proofs.Common.{◌≡◌, ℕ, zero, suc, ◌≤◌, Bool, true, false, cond, ◌||◌, nat_eq, nat_le, List, [], ◌∷◌, refl, ap, sym, ◌∙◌, inl, inr, take, length, length-take, arith, Option, Some, None}
use Rattle.std.proofs.lemmas.Bool.{and_parts, cases_Bool, cond_both, leb-true, leb-false, false_from_ne_true, true≢false}
use Rattle.std.specs.List.{list_any, list_all, starts_with}
use lib.Pointwise.{pointwise}
use Rattle.scan_model.specs.Spelling.{is_one_of, punctuators, longest, longest_up_to}
use Rattle.scan_model.proofs.LongestLemmas.{longest_is, pointwise_same, up_to_le}
use Rattle.word_table.specs.Rows.{Entry, match_of, longer, longest_row}
use Rattle.word_table.specs.Tables as tables

-- ## The longest front that passes one of two tests

abbrev larger : ℕ → ℕ → ℕ
larger a b = cond (nat_le b a) a b

larger_is : (a b : ℕ) → (b ≤ a → larger a b ≡ a) × (a ≤ b → larger a b ≡ b)
larger_is a b = (
  λ le. cond_both (nat_le b a) a b (λ k. k ≡ a) (λ e. refl) (λ e. let z = leb-false b a e in omega arith),
  λ le. cond_both (nat_le b a) a b (λ k. k ≡ b) (λ e. let z = leb-true b a e in omega arith) (λ e. refl),
)

either_up_to : (p q : List ℕ → Bool) (s : List ℕ) (n : ℕ) → longest_up_to (λ t. p t || q t) s n ≡ larger (longest_up_to p s n) (longest_up_to q s n)
either_up_to p q s zero = refl
either_up_to p q s (suc n) =
    let a = longest_up_to p s n in
    let b = longest_up_to q s n in
    let small = up_to_le p s n in
    let small' = up_to_le q s n in
    elim (p (take (suc n) s)) as (λ x. cond (x || q (take (suc n) s)) (suc n) (longest_up_to (λ t. p t || q t) s n) ≡ larger (cond x (suc n) a) (cond (q (take (suc n) s)) (suc n) b)) [
      | true ↦ sym ((larger_is (suc n) (cond (q (take (suc n) s)) (suc n) b)).0 (cond_both (q (take (suc n) s)) (suc n) b (λ k. k ≤ suc n) (λ e. omega arith) (λ e. omega arith)))
      | false ↦ elim (q (take (suc n) s)) as (λ y. cond y (suc n) (longest_up_to (λ t. p t || q t) s n) ≡ larger a (cond y (suc n) b)) [
        | true ↦ sym ((larger_is a (suc n)).1 (omega arith))
        | false ↦ either_up_to p q s n
      ]
    ]

longest-either : (p q : List ℕ → Bool) (s : List ℕ) → longest (λ t. p t || q t) s ≡ larger (longest p s) (longest q s)
unfolding longest
longest-either p q s = either_up_to p q s (length s)

-- ## One word

longest-word : (w s : List ℕ) → longest (pointwise nat_eq w) s ≡ cond (starts_with nat_eq s w) (length w) 0
longest-word w s = elim (cases_Bool (starts_with nat_eq s w)) [
  | inl e ↦
      let same : w ≡ take (length w) s = pointwise_same w (take (length w) s) e in
      let len : length w ≡ length (take (length w) s) = ap length same in
      rw e (longest_is (pointwise nat_eq w) s (length w) (omega (arith, len, length-take (length w) s)) (λ z. e)
      (λ m lt le. false_from_ne_true (pointwise nat_eq w (take m s)) (λ h.
      let k : length w ≡ length (take m s) = ap length (pointwise_same w (take m s) h) in absurd (omega (arith, k, length-take m s)))))
  | inr e ↦ rw e (longest_is (pointwise nat_eq w) s 0 (omega arith) (λ z. absurd (omega arith))
      (λ m lt le. false_from_ne_true (pointwise nat_eq w (take m s)) (λ h.
      let same : w ≡ take m s = pointwise_same w (take m s) h in
      let k : length w ≡ m = ap length same ∙ (let z : length (take m s) ≡ m = omega (arith, length-take m s) in z) in
      true≢false (sym h ∙ ap (λ j. pointwise nat_eq w (take j s)) (sym k) ∙ e))))
]

-- ## The rows

abbrev is_row : List Entry → List ℕ → Bool
is_row es s = list_any (λ e. pointwise nat_eq e.0 s) es

abbrev pub len_of : Option (ℕ × ℕ) → ℕ
len_of None = 0
len_of (Some found) = found.1

longest-never : (s : List ℕ) → longest (λ t. false) s ≡ 0
longest-never s = longest_is (λ t. false) s 0 (omega arith) (λ z. absurd (omega arith)) (λ m lt le. refl)

len_of-longer : (e : Entry) (later : Option (ℕ × ℕ)) → len_of (longer (Some (match_of e)) later) ≡ larger (length e.0) (len_of later)
len_of-longer e None = sym ((larger_is (length e.0) 0).0 (omega arith))
len_of-longer e (Some b) = elim (nat_le b.1 (length e.0)) as (λ x. len_of (cond x (Some (match_of e)) (Some b)) ≡ cond x (length e.0) b.1) [ true ↦ refl | false ↦ refl ]

longest-rows : (s : List ℕ) (es : List Entry) → longest (is_row es) s ≡ len_of (longest_row s es)
longest-rows s [] = longest-never s
longest-rows s (e ∷ es) =
    let later = longest_row s es in
    longest-either (pointwise nat_eq e.0) (is_row es) s
    ∙ ap (λ k. larger k (longest (is_row es) s)) (longest-word e.0 s)
    ∙ ap (larger (cond (starts_with nat_eq s e.0) (length e.0) 0)) (longest-rows s es)
    ∙ elim (starts_with nat_eq s e.0) as (λ x. larger (cond x (length e.0) 0) (len_of later) ≡ len_of (cond x (longer (Some (match_of e)) later) later)) [
      | true ↦ sym (len_of-longer e later)
      | false ↦ (larger_is 0 (len_of later)).1 (omega arith)
    ]

-- no row is longer than the window
short_rows : (n : ℕ) (s : List ℕ) (es : List Entry) → list_all (λ e. nat_le (length e.0) n) es ≡ true → longest_row (take n s) es ≡ longest_row s es
short_rows n s [] h = refl
short_rows n s (e ∷ es) h =
    let both = and_parts (nat_le (length e.0) n) (list_all (λ e. nat_le (length e.0) n) es) h in
    let fits : length e.0 ≤ n = leb-true (length e.0) n both.0 in
    let front : take (length e.0) (take n s) ≡ take (length e.0) s = take_front (length e.0) n s fits in
    ap (λ later. cond (starts_with nat_eq (take n s) e.0) (longer (Some (match_of e)) later) later) (short_rows n s es both.1)
    ∙ ap (λ t. cond (pointwise nat_eq e.0 t) (longer (Some (match_of e)) (longest_row s es)) (longest_row s es)) front
  where
    take_front : (k n : ℕ) (s : List ℕ) → k ≤ n → take k (take n s) ≡ take k s
    take_front zero n s h = refl
    take_front (suc k) zero s h = absurd (omega arith)
    take_front (suc k) (suc n) [] h = refl
    take_front (suc k) (suc n) (c ∷ s) h = ap (λ t. c ∷ t) (take_front k n s (omega arith))

pub longest-punctuator : (s : List ℕ) → longest (is_one_of punctuators) s ≡ len_of (longest_row (take 4 s) tables.punctuators)
longest-punctuator s = longest-rows s tables.punctuators ∙ ap len_of (sym (short_rows 4 s tables.punctuators refl))
