-- Raw strings: the delimiter, and where the string closes.
use Rattle.std.proofs.Common.{◌≡◌, ℕ, suc, ◌+◌, ◌-◌, ◌<◌, ◌≤◌, Bool, true, false, not, cond, ◌==◌, ◌&&◌, ◌||◌, List, [], ◌∷◌, ◌++◌, refl, ap, sym, ◌∙◌, inl, inr, take, drop, length, get_or, slice_index, arith, Option, Some, None, nat_eq, nat_le, nat_lt}
use Rattle.std.proofs.Math.Bool.{and_assoc, and-true}
use Rattle.std.proofs.lemmas.Bool.{and_right, eq-eqb, ne_eqb, cases_eq, cases_lt, lt-ltb, le-ltb, le-leb, lt-leb, or_parts, not-false, eqb-false}
use Rattle.std.proofs.lemmas.List.{at_drop_more, at_drop_all, take_more, append_assoc, length-append}
use Rattle.std.specs.Option.{option_map_or}
use Rattle.std.specs.List.{list_all, starts_with}
use Rattle.scan_model.specs.Spelling.{is_blank, delimiter, is_delimited, after_word, after_raw, encoding_len, opens_raw, is_suffix, is_raw}
use Rattle.token_spelling.specs.Delimiters.{IsOpened, Divides}

-- ## Delimiters

abbrev pub may_delimit : ℕ → Bool
may_delimit c = not (is_blank c || c == 10 || c == 41 || c == 92)

-- a delimiter of at most n bytes stands before the `(` of a text of this length
abbrev is_good : ℕ → List ℕ → ℕ → Bool
is_good n d len = nat_le (length d) n && list_all may_delimit d && nat_lt (length d) len

abbrev pub is_delimited_within : ℕ → List ℕ → Bool
is_delimited_within n s = is_good n (delimiter s) (length s)

pub within_all : (s : List ℕ) → is_delimited_within 16 s ≡ is_delimited s
unfolding is_delimited
within_all s = refl

delimiter-more : (c : ℕ) (s : List ℕ) → (c == 40) ≡ false → delimiter (c ∷ s) ≡ c ∷ delimiter s
delimiter-more c s h = rw h (one_more c s _) where
  one_more : (c : ℕ) (s : List ℕ) (k : ℕ) → take (1 + k) (c ∷ s) ≡ c ∷ take k s
  one_more c s k = let e : 1 + k ≡ suc k = omega arith in ap (λ j. take j (c ∷ s)) e

within_more : (n c : ℕ) (s : List ℕ) → (c == 40) ≡ false → may_delimit c ≡ true → is_delimited_within (suc n) (c ∷ s) ≡ is_delimited_within n s
within_more n c s h good = let d = delimiter s in ap (λ d. is_good (suc n) d (suc (length s))) (delimiter-more c s h)
    ∙ same (nat_le (suc (length d)) (suc n)) (nat_le (length d) n) (may_delimit c) (list_all may_delimit d) (nat_lt (suc (length d)) (suc (length s))) (nat_lt (length d) (length s))
    (le_suc (length d) n) good (lt_suc (length d) (length s))
  where
    le_suc : (a b : ℕ) → nat_le (suc a) (suc b) ≡ nat_le a b
    le_suc a b = elim (cases_lt b a) [
      | inl lt ↦ lt-leb (suc a) (suc b) (omega arith) ∙ sym (lt-leb a b lt)
      | inr le ↦ le-leb (suc a) (suc b) (omega arith) ∙ sym (le-leb a b le)
    ]

    lt_suc : (a b : ℕ) → nat_lt (suc a) (suc b) ≡ nat_lt a b
    lt_suc a b = elim (cases_lt a b) [
      | inl lt ↦ lt-ltb (suc a) (suc b) (omega arith) ∙ sym (lt-ltb a b lt)
      | inr le ↦ le-ltb (suc a) (suc b) (omega arith) ∙ sym (le-ltb a b le)
    ]

    same : (a a' m l b b' : Bool) → a ≡ a' → m ≡ true → b ≡ b' → (a && (m && l) && b) ≡ (a' && l && b')
    same a a' m l b b' e f g = rw (e, f, g) refl

within_end : (n : ℕ) → is_delimited_within n [] ≡ false
within_end n = and_right (nat_le 0 n && true) (nat_lt 0 0) refl

-- ## The same at a place in the text

pub good_here : (t : List ℕ) (i : ℕ) → i < length t → i ≤ 16 → (get_or t i 0 ≡ 40 → ⊥) → (i == 16 || not (may_delimit (get_or t i 0))) ≡ false
    → (i + 1 ≤ 16) × (is_delimited_within (16 - i) (drop i t) ≡ is_delimited_within (16 - (i + 1)) (drop (i + 1) t))
good_here t i lt le ne h =
    let other : (get_or t i 0 == 40) ≡ false = ne_eqb (get_or t i 0) 40 ne in
    let both = or_parts (i == 16) (not (may_delimit (get_or t i 0))) h in
    let below : i ≡ 16 → ⊥ = eqb-false i 16 both.0 in
    let more : 16 - i ≡ suc (16 - (i + 1)) = omega arith in (
      omega arith,
      at_drop_more (is_delimited_within (16 - i)) t i 0 lt ∙ ap (λ n. is_delimited_within n (get_or t i 0 ∷ drop (i + 1) t)) more
          ∙ within_more (16 - (i + 1)) (get_or t i 0) (drop (i + 1) t) other (not-false (may_delimit (get_or t i 0)) both.1),
    )

pub end_here : (n : ℕ) (t : List ℕ) (i : ℕ) → length t ≤ i → is_delimited_within n (drop i t) ≡ false
end_here n t i le = at_drop_all (is_delimited_within n) t i le ∙ within_end n

pub front_more : (t : List ℕ) (i : ℕ) → i < length t → (get_or t i 0 ≡ 40 → ⊥) → take (i + 1) t ++ delimiter (drop (i + 1) t) ≡ take i t ++ delimiter (drop i t)
front_more t i lt ne = let c = get_or t i 0 in let rest = delimiter (drop (i + 1) t) in
    ap (λ f. f ++ rest) (take_more t i 0 lt) ∙ append_assoc (take i t) (c ∷ []) rest
    ∙ ap (λ d. take i t ++ d) (sym (at_drop_more delimiter t i 0 lt ∙ delimiter-more c (drop (i + 1) t) (ne_eqb c 40 ne)))

-- ## Where it closes

eq_comm : (a b : ℕ) → (a == b) ≡ (b == a)
eq_comm a b = elim (cases_eq a b) [
  | inl e ↦ eq-eqb a b e ∙ sym (eq-eqb b a (sym e))
  | inr ne ↦ ne_eqb a b ne ∙ sym (ne_eqb b a (λ e. ne (sym e)))
]

-- a word and then a byte begin the text
starts_with-push : (d t : List ℕ) (q : ℕ) → (0 == q) ≡ false → starts_with nat_eq t (d ++ q ∷ []) ≡ (starts_with nat_eq t d && slice_index t (length d) == q)
starts_with-push [] [] q h = sym h
starts_with-push [] (c ∷ t) q h = and-true (nat_eq q c) ∙ eq_comm q c
starts_with-push (x ∷ d) [] q h = refl
starts_with-push (x ∷ d) (c ∷ t) q h = ap (λ b. nat_eq x c && b) (starts_with-push d t q h) ∙ sym (and_assoc (nat_eq x c) (starts_with nat_eq t d) (slice_index t (length d) == q))

-- `)`, the delimiter and `"` begin the text
pub closes_by : (t d : List ℕ) → starts_with nat_eq t (41 ∷ d ++ 34 ∷ []) ≡ (slice_index t 0 == 41 && (starts_with nat_eq (drop 1 t) d && slice_index t (length d + 1) == 34))
closes_by [] d = refl
closes_by (c ∷ t) d = let e : suc (length d) ≡ length d + 1 = omega arith in
    ap (λ b. nat_eq 41 c && b) (starts_with-push d t 34 refl) ∙ ap (λ a. a && (starts_with nat_eq t d && slice_index t (length d) == 34)) (eq_comm 41 c)
    ∙ ap (λ k. c == 41 && (starts_with nat_eq t d && slice_index (c ∷ t) k == 34)) e

pub length-close : (d : List ℕ) → length (41 ∷ d ++ 34 ∷ []) ≡ length d + 2
length-close d = omega (arith, length-append d (34 ∷ []))

word_step : (w t : List ℕ) (i : ℕ) → i < length t → after_word w (drop i t) ≡ cond (starts_with nat_eq (drop i t) w) (Some (drop (length w) (drop i t))) (after_word w (drop (i + 1) t))
unfolding after_word
word_step w t i lt = at_drop_more (after_word w) t i 0 lt
    ∙ ap (λ s. cond (starts_with nat_eq s w) (Some (drop (length w) s)) (after_word w (drop (i + 1) t))) (sym (at_drop_more (λ s. s) t i 0 lt))

pub word_here : (w t : List ℕ) (i : ℕ) → i < length t → starts_with nat_eq (drop i t) w ≡ true → after_word w (drop i t) ≡ Some (drop (length w) (drop i t))
word_here w t i lt h = word_step w t i lt ∙ ap (λ b. cond b (Some (drop (length w) (drop i t))) (after_word w (drop (i + 1) t))) h

pub word_more : (w t : List ℕ) (i : ℕ) → i < length t → starts_with nat_eq (drop i t) w ≡ false → after_word w (drop i t) ≡ after_word w (drop (i + 1) t)
word_more w t i lt h = word_step w t i lt ∙ ap (λ b. cond b (Some (drop (length w) (drop i t))) (after_word w (drop (i + 1) t))) h

pub word_end : (w t : List ℕ) (i : ℕ) → length t ≤ i → after_word w (drop i t) ≡ None
unfolding after_word
word_end w t i le = at_drop_all (after_word w) t i le

-- ## Whole spellings

pub not_opened : (n : ℕ) (s : List ℕ) → n ≡ encoding_len s → (slice_index s n == 82 && slice_index s (n + 1) == 34) ≡ false → opens_raw s ≡ false
not_opened n s e h = ap (λ k. slice_index s k == 82 && slice_index s (k + 1) == 34) (sym e) ∙ h

pub opened : (n : ℕ) (s behind : List ℕ) → n ≡ encoding_len s → (slice_index s n == 82 && slice_index s (n + 1) == 34) ≡ true → behind ≡ drop (n + 2) s → IsOpened s behind
opened n s behind e h is_behind = record {
  opens = ap (λ k. slice_index s k == 82 && slice_index s (k + 1) == 34) (sym e) ∙ h;
  is_behind = is_behind ∙ ap (λ k. drop (k + 2) s) e;
}

pub not_raw : (s : List ℕ) → opens_raw s ≡ false → is_raw s ≡ false
unfolding is_raw
not_raw s h = rw h refl

raw_is : (s behind : List ℕ) → IsOpened s behind → is_raw s ≡ (is_delimited behind && option_map_or is_suffix (after_raw behind) false)
unfolding is_raw
raw_is s behind h = ap (λ b. b && is_delimited (drop (encoding_len s + 2) s) && option_map_or is_suffix (after_raw (drop (encoding_len s + 2) s)) false) h.opens
    ∙ ap (λ r. is_delimited r && option_map_or is_suffix (after_raw r) false) (sym h.is_behind)

pub not_delimited : (s behind : List ℕ) → IsOpened s behind → is_delimited behind ≡ false → is_raw s ≡ false
not_delimited s behind h none = raw_is s behind h ∙ ap (λ b. b && option_map_or is_suffix (after_raw behind) false) none

pub raw_by : (s behind d inside : List ℕ) (after : Option (List ℕ)) → IsOpened s behind → Divides behind d inside → after ≡ after_word (41 ∷ d ++ 34 ∷ []) inside
    → is_raw s ≡ option_map_or is_suffix after false
unfolding after_raw
raw_by s behind d inside after h divided f =
    let same : after_raw behind ≡ after =
    sym (f ∙ ap (after_word (41 ∷ d ++ 34 ∷ [])) divided.is_inside ∙ ap (λ d. after_word (41 ∷ d ++ 34 ∷ []) (drop (length d + 1) behind)) divided.is_delimiter) in
    raw_is s behind h ∙ ap (λ b. b && option_map_or is_suffix (after_raw behind) false) divided.good ∙ ap (λ a. option_map_or is_suffix a false) same
