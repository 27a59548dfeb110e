-- Only the entries that begin with a text's first byte can be a prefix of it.
use Rattle.std.proofs.Common.{◌≡◌, ℕ, Bool, true, false, ◌||◌, ◌==◌, nat_eq, cond, List, [], ◌∷◌, length, refl, sym, ap, ◌∙◌, Option, Some, None, slice_index, inl, inr, arith}
use Rattle.std.proofs.lemmas.Bool.{and_left, and_parts, or_parts, eqb-true, cases_Bool}
use Rattle.std.specs.List.{starts_with, filter, list_all, list_any}
use Rattle.word_table.specs.Rows.{Entry, longest_row, longer, match_of, starts_as, begins_as, rows_among}

-- the word begins with one of the bytes
abbrev pub starts_among : List ℕ → List ℕ → Bool
starts_among ks [] = false
starts_among ks (d ∷ ds) = list_any (λ k. d == k) ks

-- each entry begins with one of the bytes
abbrev pub cover : List ℕ → List Entry → Bool
cover ks es = list_all (λ e. starts_among ks e.0) es

no_prefix : (c : ℕ) (s word : List ℕ) → starts_as c word ≡ false → starts_with nat_eq (c ∷ s) word ≡ false
no_prefix c s [] h = cc
no_prefix c s (d ∷ ds) h = and_left (d == c) _ h

-- the same choice between two later matches
same_choice : (b : Bool) (m : ℕ × ℕ) (a a' : Option (ℕ × ℕ)) → a ≡ a' → cond b (longer (Some m) a) a ≡ cond b (longer (Some m) a') a'
same_choice b m a a' e = ap (λ x. cond b (longer (Some m) x) x) e

of_first : (c : ℕ) (s : List ℕ) (es : List Entry) → longest_row (c ∷ s) (filter (begins_as c) es) ≡ longest_row (c ∷ s) es
of_first c s [] = refl
of_first c s (e ∷ es) = elim (cases_Bool (begins_as c e)) [
  | inl same ↦ rw same (same_choice (starts_with nat_eq (c ∷ s) e.0) (match_of e) _ _ (of_first c s es))
  | inr other ↦ rw other (of_first c s es ∙ rw (no_prefix c s e.0 other) refl)
]

-- no entry begins with a byte that is none of these
none_of_first : (ks : List ℕ) (c : ℕ) (s : List ℕ) (es : List Entry) → cover ks es ≡ true → list_any (λ k. c == k) ks ≡ false → longest_row (c ∷ s) es ≡ None
none_of_first ks c s [] all none = refl
none_of_first ks c s (e ∷ es) all none =
    let both = and_parts (starts_among ks e.0) (cover ks es) all in
    rw (no_prefix c s e.0 (other ks c e.0 both.0 none)) (none_of_first ks c s es both.1 none)
  where
    other : (ks : List ℕ) (c : ℕ) (word : List ℕ) → starts_among ks word ≡ true → list_any (λ k. c == k) ks ≡ false → starts_as c word ≡ false
    other ks c [] among none = cc
    other ks c (d ∷ ds) among none = elim (cases_Bool (d == c)) [
      | inl same ↦ let e : d ≡ c = eqb-true d c same in let f : list_any (λ k. d == k) ks ≡ list_any (λ k. c == k) ks = ap (λ x. list_any (λ k. x == k) ks) e in cc
      | inr differs ↦ differs
    ]

among_first : (es : List Entry) (ks : List ℕ) (c : ℕ) (s : List ℕ) → list_any (λ k. c == k) ks ≡ true → longest_row (c ∷ s) (rows_among es ks c) ≡ longest_row (c ∷ s) es
among_first es [] c s some = cc
among_first es (k ∷ ks) c s some = elim (cases_Bool (c == k)) [
  | inl same ↦ rw same (ap (λ x. longest_row (c ∷ s) (filter (begins_as x) es)) (sym (eqb-true c k same)) ∙ of_first c s es)
  | inr other ↦ rw other (among_first es ks c s (sym (ap (λ b. b || list_any (λ k. c == k) ks) other) ∙ some))
]

none_among : (es : List Entry) (ks : List ℕ) (c : ℕ) → list_any (λ k. c == k) ks ≡ false → rows_among es ks c ≡ []
none_among es [] c none = refl
none_among es (k ∷ ks) c none = let both = or_parts (c == k) (list_any (λ k. c == k) ks) none in rw both.0 (none_among es ks c both.1)

-- so it is enough to look at those
pub longest_from : (es : List Entry) (ks text : List ℕ) → cover ks es ≡ true → (length text ≡ 0 → ⊥) → longest_row text (rows_among es ks (slice_index text 0)) ≡ longest_row text es
longest_from es ks [] all some = absurd (some refl)
longest_from es ks (c ∷ s) all some = elim (cases_Bool (list_any (λ k. c == k) ks)) [
  | inl same ↦ among_first es ks c s same
  | inr other ↦ ap (longest_row (c ∷ s)) (none_among es ks c other) ∙ sym (none_of_first ks c s es all other)
]

-- nothing is a prefix of an empty text
pub longest_of_none : (es : List Entry) (ks text : List ℕ) → cover ks es ≡ true → length text ≡ 0 → longest_row text es ≡ None
longest_of_none es ks (c ∷ s) all none = absurd (omega (arith, none))
longest_of_none [] ks [] all none = refl
longest_of_none (e ∷ es) ks [] all none =
    let both = and_parts (starts_among ks e.0) (cover ks es) all in
    rw (no_word ks e.0 both.0) (longest_of_none es ks [] both.1 refl)
  where
    no_word : (ks word : List ℕ) → starts_among ks word ≡ true → starts_with nat_eq [] word ≡ false
    no_word ks [] among = cc
    no_word ks (d ∷ ds) among = refl
