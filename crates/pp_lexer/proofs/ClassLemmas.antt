-- Which classes a spelling can be of, by its first bytes.
use Rattle.std.proofs.Common.{◌≡◌, ℕ, ◌<◌, ◌≤◌, Bool, true, not, ◌==◌, ◌&&◌, ◌||◌, nat_le, List, [], ◌∷◌, ◌++◌, refl, ap, sym, ◌∙◌, inl, inr, slice_index, arith}
use Rattle.std.proofs.lemmas.Bool.{and_parts, or_cases, or_left, or_right, and_from, cases_lt, le-leb, eqb-true, leb-true}
use Rattle.std.proofs.lemmas.Str.{encode_ascii, char_from_byte, chars_from_encodes, IsUtf8-from_is_utf8}
use Rattle.std.specs.List.{list_all}
use Rattle.std.specs.Char.{is_ascii_digit}
use Rattle.std.specs.Str.{is_utf8, chars, encode_utf8_all}
use Rattle.scan_model.specs.Spelling.{first, is_start, is_continue, is_name, are_name, is_alternative, alternatives, punctuators, is_number, are_number, go_on, is_one_of}
use Rattle.scan_model.proofs.Computing.{reading}
use Rattle.scan_model.proofs.LongestLemmas.{one_of_passes}

-- ## Names

-- a byte beyond ASCII, or a start character
abbrev pub begins_word : ℕ → Bool
begins_word c = nat_le 128 c || is_start c

are_name-cons : (d : ℕ) (ds : List ℕ) → are_name (d ∷ ds) ≡ true → is_start d ≡ true
are_name-cons d ds h = (and_parts (is_start d) (list_all is_continue ds) h).0

encoded_name : (c : ℕ) (t : List ℕ) (ds : List ℕ) → encode_utf8_all ds ≡ c ∷ t → are_name ds ≡ true → c < 128 → is_start c ≡ true
encoded_name c t [] e h small = cc
encoded_name c t (d ∷ ds) e h small =
    let same : d ≡ c = char_from_byte (c ∷ t) (encode_utf8_all ds) d (sym e) small (omega arith) in
    ap is_start (sym same) ∙ are_name-cons d ds h

pub name_first : (c : ℕ) (t : List ℕ) → is_name (c ∷ t) ≡ true → begins_word c ≡ true
unfolding is_name
name_first c t h = elim (cases_lt c 128) [
  | inl small ↦
      let both = and_parts (is_utf8 (c ∷ t)) (are_name (chars (c ∷ t))) h in
      let text = IsUtf8-from_is_utf8 (c ∷ t) both.0 in
      or_right (nat_le 128 c) (is_start c)
      (encoded_name c t text.0 text.1.1 (ap are_name (chars_from_encodes text.0 (c ∷ t) text text.1.1) ∙ both.1) small)
  | inr large ↦ or_left (nat_le 128 c) (is_start c) (le-leb 128 c large)
]

-- ## Numbers

-- a digit, or a dot and a digit
abbrev pub begins_digits : List ℕ → Bool
begins_digits s = is_ascii_digit (slice_index s 0) || (slice_index s 0 == 46 && is_ascii_digit (slice_index s 1))

pub digit_small : (c : ℕ) → is_ascii_digit c ≡ true → c < 128
digit_small c h = let both = and_parts (nat_le 48 c) (nat_le c 57) h in let le : c ≤ 57 = leb-true c 57 both.1 in omega arith

digit_next : (ds : List ℕ) → is_ascii_digit (first ds) ≡ true → is_ascii_digit (slice_index (encode_utf8_all ds) 0) ≡ true
digit_next [] h = h
digit_next (d ∷ ds) h = ap (λ b. is_ascii_digit (slice_index (b ++ encode_utf8_all ds) 0)) (encode_ascii d (digit_small d h)) ∙ h

encoded_number : (ds : List ℕ) → are_number ds ≡ true → begins_digits (encode_utf8_all ds) ≡ true
encoded_number [] h = cc
encoded_number (d ∷ ds) h =
    let begin = (and_parts (is_ascii_digit d || (d == 46 && is_ascii_digit (first ds))) (go_on d ds) h).0 in
    elim (or_cases (is_ascii_digit d) (d == 46 && is_ascii_digit (first ds)) begin) [
      | inl digit ↦ ap (λ b. begins_digits (b ++ encode_utf8_all ds)) (encode_ascii d (digit_small d digit)) ∙ or_left (is_ascii_digit d) (d == 46 && is_ascii_digit (slice_index (encode_utf8_all ds) 0)) digit
      | inr dotted ↦
          let both = and_parts (d == 46) (is_ascii_digit (first ds)) dotted in
          let dot : d ≡ 46 = eqb-true d 46 both.0 in
          ap (λ b. begins_digits (b ++ encode_utf8_all ds)) (encode_ascii d (omega arith))
          ∙ or_right (is_ascii_digit d) (d == 46 && is_ascii_digit (slice_index (encode_utf8_all ds) 0))
          (and_from (d == 46) (is_ascii_digit (slice_index (encode_utf8_all ds) 0)) both.0 (digit_next ds both.1))
    ]

pub number_first : (s : List ℕ) → is_number s ≡ true → begins_digits s ≡ true
unfolding is_number
number_first s h =
    let both = and_parts (is_utf8 s) (are_number (chars s)) h in
    let text = IsUtf8-from_is_utf8 s both.0 in
    ap begins_digits (sym text.1.1) ∙ encoded_number text.0 (ap are_number (chars_from_encodes text.0 s text text.1.1) ∙ both.1)

-- ## Punctuators

-- an alternative word is a name
pub alternative_name : (t : List ℕ) → is_alternative t ≡ true → is_name t ≡ true
unfolding reading
alternative_name t h = one_of_passes is_name alternatives refl t h

-- no word and no quote begins so, nor anything but ASCII
abbrev pub is_mark : ℕ → Bool
is_mark c = not (begins_word c) && not (c == 34) && not (c == 39) && not (is_ascii_digit c)

pub mark_first : (t : List ℕ) → is_one_of punctuators t ≡ true → is_mark (first t) ≡ true
unfolding is_start
mark_first t h = one_of_passes (λ t. is_mark (first t)) punctuators refl t h

pub mark_digits : (t : List ℕ) → is_one_of punctuators t ≡ true → not (begins_digits t) ≡ true
mark_digits t h = one_of_passes (λ t. not (begins_digits t)) punctuators refl t h
