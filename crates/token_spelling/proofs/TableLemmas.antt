-- A whole spelling among the words of a table.
use Rattle.std.proofs.Common.{◌≡◌, ℕ, suc, ◌≤◌, Bool, true, false, cond, ◌==◌, ◌&&◌, ◌||◌, List, [], ◌∷◌, refl, ap, sym, ◌∙◌, inl, inr, take, length, length-take, arith, Option, Some, None, is_some, nat_eq, nat_le}
use Rattle.std.proofs.Math.Bool.{and_assoc, or-false}
use Rattle.std.proofs.lemmas.Bool.{cases_Bool, and_left, ne_eqb, eq-eqb, cases_eq, leb-true, leb-false}
use Rattle.std.specs.Option.{option_map, option_map_or}
use Rattle.std.specs.List.{find, list_any, starts_with}
use lib.Pointwise.{pointwise}
use Rattle.scan_model.specs.Spelling.{is_alternative, is_one_of, punctuators}
use Rattle.scan_model.proofs.LongestLemmas.{pointwise_same}
use Rattle.word_table.specs.Rows.{Entry, value_of, has_word, longer, match_of, longest_row}
use Rattle.word_table.specs.Tables as table

pub found_any : {A B : Type 0} (f : A → B) (p : A → Bool) (xs : List A) → is_some (option_map f (find p xs)) ≡ list_any p xs
found_any f p [] = refl
found_any f p (x ∷ xs) = elim (p x) as (λ b. is_some (option_map f (cond b (Some x) (find p xs))) ≡ (b || list_any p xs)) [ true ↦ refl | false ↦ found_any f p xs ]

-- a word is found exactly where it is an alternative word
pub alternative_found : (s : List ℕ) → is_some (option_map value_of (find (has_word s) table.operator_words)) ≡ is_alternative s
unfolding is_alternative
alternative_found s = found_any value_of (has_word s) table.operator_words

-- a match is as long as the whole text
abbrev pub is_whole : List ℕ → Option (ℕ × ℕ) → Bool
is_whole s found = option_map_or (λ m. m.1 == length s) found false

abbrev IsWithin : List ℕ → Option (ℕ × ℕ) → Type 0
IsWithin s None = Unit {0}
IsWithin s (Some m) = m.1 ≤ length s

eq-suc : (a b : ℕ) → (suc a == suc b) ≡ (a == b)
eq-suc a b = elim (cases_eq a b) [
  | inl e ↦ eq-eqb (suc a) (suc b) (omega arith) ∙ sym (eq-eqb a b e)
  | inr ne ↦ ne_eqb (suc a) (suc b) (λ e. ne (omega arith)) ∙ sym (ne_eqb a b ne)
]

-- a word is the whole text exactly where it begins it and is as long
word_whole : (word s : List ℕ) → pointwise nat_eq word s ≡ (starts_with nat_eq s word && length word == length s)
word_whole [] [] = refl
word_whole [] (c ∷ s) = sym (ne_eqb 0 (suc (length s)) (λ e. omega arith))
word_whole (w ∷ word) [] = refl
word_whole (w ∷ word) (c ∷ s) =
    ap (λ b. nat_eq w c && b) (word_whole word s) ∙ sym (and_assoc (nat_eq w c) (starts_with nat_eq s word) (length word == length s))
    ∙ ap (λ b. (nat_eq w c && starts_with nat_eq s word) && b) (sym (eq-suc (length word) (length s)))

front_within : (word s : List ℕ) → starts_with nat_eq s word ≡ true → length word ≤ length s
front_within word s h = let e : length word ≡ length (take (length word) s) = ap length (pointwise_same word (take (length word) s) h) in
    omega (arith, e, length-take (length word) s)

longer_within : (s : List ℕ) (a : ℕ × ℕ) (later : Option (ℕ × ℕ)) → a.1 ≤ length s → IsWithin s later → IsWithin s (longer (Some a) later)
longer_within s a None h k = h
longer_within s a (Some b) h k = elim (nat_le b.1 a.1) as (λ t. IsWithin s (cond t (Some a) (Some b))) [ true ↦ h | false ↦ k ]

row_within : (s : List ℕ) (es : List Entry) → IsWithin s (longest_row s es)
row_within s [] = tt
row_within s (e ∷ es) = elim (cases_Bool (starts_with nat_eq s e.0)) [
  | inl h ↦ rw h (longer_within s (match_of e) (longest_row s es) (front_within e.0 s h) (row_within s es))
  | inr h ↦ rw h (row_within s es)
]

longer_whole : (s : List ℕ) (a : ℕ × ℕ) (later : Option (ℕ × ℕ)) → a.1 ≤ length s → IsWithin s later → is_whole s (longer (Some a) later) ≡ (a.1 == length s || is_whole s later)
longer_whole s a None h k = sym (or-false (a.1 == length s))
longer_whole s a (Some b) h k = elim (cases_Bool (nat_le b.1 a.1)) [
  | inl t ↦ rw t (earlier a.1 b.1 (length s) h (leb-true b.1 a.1 t))
  | inr t ↦ rw t (let no : (a.1 == length s) ≡ false = ne_eqb a.1 (length s) (λ e. omega (arith, leb-false b.1 a.1 t)) in rw no refl)
] where
  earlier : (a b n : ℕ) → a ≤ n → b ≤ a → (a == n) ≡ (a == n || b == n)
  earlier a b n h k = elim (cases_eq a n) [
    | inl e ↦ let yes : (a == n) ≡ true = eq-eqb a n e in rw yes refl
    | inr ne ↦ let no : (b == n) ≡ false = ne_eqb b n (λ e. ne (omega arith)) in rw no (sym (or-false (a == n)))
  ]

longest_whole : (s : List ℕ) (es : List Entry) → is_whole s (longest_row s es) ≡ list_any (has_word s) es
longest_whole s [] = refl
longest_whole s (e ∷ es) = elim (cases_Bool (starts_with nat_eq s e.0)) [
  | inl h ↦ let same : pointwise nat_eq e.0 s ≡ (length e.0 == length s) = word_whole e.0 s ∙ ap (λ b. b && length e.0 == length s) h in
      rw (h, same) (longer_whole s (match_of e) (longest_row s es) (front_within e.0 s h) (row_within s es) ∙ ap (λ b. length e.0 == length s || b) (longest_whole s es))
  | inr h ↦ let other : pointwise nat_eq e.0 s ≡ false = word_whole e.0 s ∙ and_left (starts_with nat_eq s e.0) (length e.0 == length s) h in
      rw (h, other) (longest_whole s es)
]

-- the longest row that begins the spelling is the whole exactly where the spelling is in the table
pub table_whole : (s : List ℕ) → is_whole s (longest_row s table.punctuators) ≡ is_one_of punctuators s
table_whole s = longest_whole s table.punctuators
