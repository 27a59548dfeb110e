-- Where a quote opens, the longest front that is a token is the longest quoted one.
use Rattle.std.proofs.Common.{◌≡◌, ℕ, zero, suc, ◌+◌, ◌<◌, ◌≤◌, Bool, true, false, cond, ◌==◌, ◌&&◌, ◌||◌, nat_eq, nat_le, List, [], ◌∷◌, ◌++◌, refl, ap, sym, ◌∙◌, inl, inr, take, drop, length, length-take, length-drop, slice_index, arith, get_or, codes, append-nil, ◌⊎◌, Some}
use Rattle.std.proofs.lemmas.Bool.{and_parts, and_from, and_left, or_cases, or_left, or_right, cases_lt, eqb-true, eq-eqb, cond_both, le-leb, false_from_ne_true, true≢false}
use Rattle.std.proofs.lemmas.List.{drop-take}
use Rattle.std.proofs.lemmas.Str.{encode_ascii, inside_one, chars_from_encodes, IsUtf8-from_is_utf8}
use Rattle.std.specs.Option.{option_map_or}
use Rattle.std.specs.List.{list_all, starts_with}
use Rattle.std.specs.Char.{encode_utf8, is_ascii_digit}
use lib.Pointwise.{pointwise}
use Rattle.std.specs.Str.{is_utf8, chars, encode_utf8_all}
use Rattle.scan_model.specs.declared.token.Kind.TheVariants.{Char, Str}
use Rattle.scan_model.specs.Spelling.{first, is_start, is_continue, is_name, are_name, is_ident, punctuators, is_number, is_quoted, is_punct, is_one_of, is_suffix, encoding_len, opens, after_items, after_quoted, longest}
use Rattle.scan_model.specs.Tokens.{is_token, kind_of}
use Rattle.scan_model.proofs.LongestLemmas.{longest_is, longest_le, longest_passes, longest_beyond}
use Rattle.scan_model.proofs.QuotedLemmas.{closes}
use Rattle.pp_lexer.proofs.ClassLemmas.{begins_word, begins_digits, number_first}
use Rattle.pp_lexer.proofs.OpeningLemmas.{index-take, index_some, opens-take, opens_reaches}
use Rattle.pp_lexer.proofs.ChoiceLemmas.{digits_word, Mark, mark_facts, punct_no}
use Rattle.lexeme_reader.proofs.DelimiterLemmas.{all_from}
use Rattle.lexeme_reader.proofs.PassLemmas.{list_all-append}
use Rattle.lexeme_reader.proofs.QuotedLemmas.{encoding_len-take}

-- ## No name has a quote in it

-- a byte beyond ASCII, or a character of names
abbrev in_word : ℕ → Bool
in_word c = nat_le 128 c || is_start c || is_continue c

at_all : (p : ℕ → Bool) (xs : List ℕ) (i : ℕ) → i < length xs → list_all p xs ≡ true → p (slice_index xs i) ≡ true
at_all p [] i lt h = absurd (omega arith)
at_all p (x ∷ xs) zero lt h = (and_parts (p x) (list_all p xs) h).0
at_all p (x ∷ xs) (suc i) lt h = at_all p xs i (omega arith) (and_parts (p x) (list_all p xs) h).1

encoded_in_word : (d : ℕ) → (is_start d || is_continue d) ≡ true → list_all in_word (encode_utf8 d) ≡ true
encoded_in_word d h = elim (cases_lt d 128) [
  | inl small ↦ ap (list_all in_word) (encode_ascii d small) ∙ and_from (in_word d) true (last_two (nat_le 128 d) (is_start d) (is_continue d) h) refl
  | inr large ↦ all_from in_word (encode_utf8 d) (λ k lt. elim (cases_lt (get_or (encode_utf8 d) k 0) 128) [
    | inl small ↦ absurd (let same : d ≡ get_or (encode_utf8 d) k 0 = inside_one d [] (encode_utf8 d) k (sym (append-nil (encode_utf8 d))) lt small in omega arith)
    | inr big ↦ first_one (nat_le 128 (get_or (encode_utf8 d) k 0)) _ _ (le-leb 128 (get_or (encode_utf8 d) k 0) big)
  ])
] where
  last_two : (a b c : Bool) → (b || c) ≡ true → (a || b || c) ≡ true
  last_two true b c h = refl
  last_two false b c h = h

  first_one : (a b c : Bool) → a ≡ true → (a || b || c) ≡ true
  first_one true b c h = refl
  first_one false b c h = cc

encoded_all : (ds : List ℕ) → list_all (λ d. is_start d || is_continue d) ds ≡ true → list_all in_word (encode_utf8_all ds) ≡ true
encoded_all [] h = refl
encoded_all (d ∷ ds) h =
    let both = and_parts (is_start d || is_continue d) (list_all (λ d. is_start d || is_continue d) ds) h in
    list_all-append in_word (encode_utf8 d) (encode_utf8_all ds) (encoded_in_word d both.0) (encoded_all ds both.1)

name_chars : (ds : List ℕ) → are_name ds ≡ true → list_all (λ d. is_start d || is_continue d) ds ≡ true
name_chars [] h = cc
name_chars (d ∷ ds) h =
    let both = and_parts (is_start d) (list_all is_continue ds) h in
    and_from (is_start d || is_continue d) _ (or_left (is_start d) (is_continue d) both.0) (go_on ds both.1)
  where
    go_on : (ds : List ℕ) → list_all is_continue ds ≡ true → list_all (λ d. is_start d || is_continue d) ds ≡ true
    go_on [] h = refl
    go_on (d ∷ ds) h = let both = and_parts (is_continue d) (list_all is_continue ds) h in
        and_from (is_start d || is_continue d) _ (or_right (is_start d) (is_continue d) both.0) (go_on ds both.1)

pub name_bytes : (s : List ℕ) → is_name s ≡ true → list_all in_word s ≡ true
unfolding is_name
name_bytes s h =
    let both = and_parts (is_utf8 s) (are_name (chars s)) h in
    let text = IsUtf8-from_is_utf8 s both.0 in
    ap (list_all in_word) (sym text.1.1) ∙ encoded_all text.0 (name_chars text.0 (ap are_name (chars_from_encodes text.0 s text text.1.1) ∙ both.1))

-- ## Where a quote opens

-- what the two quotes have in common
pub record Quote (q o : ℕ) : Type 0 where
  pub some : q ≡ 0 → ⊥
  pub other : (q == o) ≡ false
  pub word : in_word q ≡ false
  pub mark : (c : ℕ) → c ≡ q → Mark c → ⊥
  pub digits : (s : List ℕ) → first s ≡ q → begins_digits s ≡ false

pub single : Quote 39 34
unfolding is_start is_continue
single = record {
  some = λ e. omega (arith, e);
  other = refl;
  word = refl;
  mark = λ c e m. true≢false (sym (eq-eqb c 39 e) ∙ m.single);
  digits = λ s e. ap (λ c. is_ascii_digit c || (c == 46 && is_ascii_digit (slice_index s 1))) e;
}

pub double : Quote 34 39
unfolding is_start is_continue
double = record {
  some = λ e. omega (arith, e);
  other = refl;
  word = refl;
  mark = λ c e m. true≢false (sym (eq-eqb c 34 e) ∙ m.double);
  digits = λ s e. ap (λ c. is_ascii_digit c || (c == 46 && is_ascii_digit (slice_index s 1))) e;
}

word_at : (c d : ℕ) → c ≡ d → begins_word d ≡ true → begins_word c ≡ true
word_at c d e h = ap begins_word e ∙ h

long_word : (s : List ℕ) → starts_with nat_eq s (codes "u8") ≡ true → begins_word (first s) ≡ true
unfolding is_start
long_word [] h = cc
long_word (c ∷ s) h = word_at c 117 (sym (eqb-true 117 c (and_parts (117 == c) (pointwise nat_eq (56 ∷ []) (take 1 s)) h).0)) refl

short_word : (c : ℕ) → (c == 117 || c == 85 || c == 76) ≡ true → begins_word c ≡ true
unfolding is_start
short_word c h = elim (or_cases (c == 117 || c == 85) (c == 76) h) [
  | inl more ↦ elim (or_cases (c == 117) (c == 85) more) [
    | inl e ↦ word_at c 117 (eqb-true c 117 e) refl
    | inr e ↦ word_at c 85 (eqb-true c 85 e) refl
  ]
  | inr e ↦ word_at c 76 (eqb-true c 76 e) refl
]

-- a prefix's letter or the quote stands first
pub opened_first : (q : ℕ) (s : List ℕ) → opens q s ≡ true → (begins_word (first s) ≡ true) ⊎ (first s ≡ q)
opened_first q s h =
    let G : Type 0 = (begins_word (first s) ≡ true) ⊎ (first s ≡ q) in
    let P : ℕ → Type 0 = λ k. (slice_index s k == q) ≡ true → G in
    let short = first s == 117 || first s == 85 || first s == 76 in
    cond_both (starts_with nat_eq s (codes "u8")) 2 (cond short 1 0) P (λ e z. inl (long_word s e))
    (λ e. cond_both short 1 0 P (λ f z. inl (short_word (first s) f)) (λ f z. inr (eqb-true (first s) q z))) h

-- no other class, where the front reaches the quote
pub record NoOther (q o : ℕ) (u : List ℕ) : Type 0 where
  pub name : is_name u ≡ false
  pub number : is_number u ≡ false
  pub other : is_quoted o u ≡ false
  pub punct : is_punct u ≡ false

no_name_there : (q o : ℕ) (s : List ℕ) (m : ℕ) → Quote q o → opens q s ≡ true → encoding_len s < m → is_name (take m s) ≡ false
no_name_there q o s m quote opening lt =
    let i = encoding_len s in
    let there : slice_index s i ≡ q = eqb-true (slice_index s i) q opening in
    let within = index_some s i (λ z. quote.some (sym there ∙ z)) in
    false_from_ne_true (is_name (take m s)) (λ e.
    true≢false (sym (at_all in_word (take m s) i (omega (arith, within, length-take m s)) (name_bytes (take m s) e))
    ∙ ap in_word (index-take s m i lt ∙ there) ∙ quote.word))

no_other_there : (q o : ℕ) (s : List ℕ) (m : ℕ) → Quote q o → opens q s ≡ true → encoding_len s < m → is_quoted o (take m s) ≡ false
unfolding is_quoted
no_other_there q o s m quote opening lt =
    and_left (opens o (take m s)) _
    (opens-take o s m lt ∙ ap (λ c. c == o) (eqb-true (slice_index s (encoding_len s)) q opening) ∙ quote.other)

no_number_there : (q o : ℕ) (u : List ℕ) → Quote q o → (begins_word (first u) ≡ true) ⊎ (first u ≡ q) → is_number u ≡ false
no_number_there q o u quote begin = false_from_ne_true (is_number u) (λ e. elim begin [
  | inl word ↦ true≢false (sym word ∙ digits_word u (number_first u e))
  | inr here ↦ true≢false (sym (number_first u e) ∙ quote.digits u here)
])

no_mark_there : (q o : ℕ) (u : List ℕ) → Quote q o → (begins_word (first u) ≡ true) ⊎ (first u ≡ q) → is_one_of punctuators u ≡ false
no_mark_there q o u quote begin = false_from_ne_true (is_one_of punctuators u) (λ e. elim begin [
  | inl word ↦ true≢false (sym word ∙ (mark_facts u e).word)
  | inr here ↦ quote.mark (first u) here (mark_facts u e)
])

pub no_other : (q o : ℕ) (s : List ℕ) (m : ℕ) → Quote q o → opens q s ≡ true → encoding_len s < m → NoOther q o (take m s)
no_other q o s m quote opening lt =
    let name = no_name_there q o s m quote opening lt in
    let begin = opened_first q (take m s) (opens-take q s m lt ∙ opening) in
    record {
      name = name;
      number = no_number_there q o (take m s) quote begin;
      other = no_other_there q o s m quote opening lt;
      punct = punct_no (take m s) name (no_mark_there q o (take m s) quote begin);
    }

-- ## A closed quote

-- up to the closing quote it is a whole one
pub quoted_some : (q o : ℕ) (s r : List ℕ) → Quote q o → opens q s ≡ true → after_quoted q s ≡ Some r → 0 < longest (is_quoted q) s
unfolding is_quoted
quoted_some q o s r quote opening after =
    let i = encoding_len s in
    let there : slice_index s i ≡ q = eqb-true (slice_index s i) q opening in
    let within = index_some s i (λ z. quote.some (sym there ∙ z)) in
    let t = drop (i + 1) s in
    let c = closes q false t r after in
    let m = i + 1 + c.len in
    let reaches : i < m = omega arith in
    let whole = c.whole in
    let le : m ≤ length s = omega (arith, whole, within, length-drop (i + 1) s) in
    let inside : after_quoted q (take m s) ≡ Some [] =
    ap (λ k. after_items q false (drop (k + 1) (take m s))) (encoding_len-take s m reaches)
    ∙ ap (after_items q false) (drop-take (i + 1) c.len s) ∙ c.long c.len 0 (omega arith) in
    let passes : is_quoted q (take m s) ≡ true =
    and_from (opens q (take m s)) _ (opens-take q s m reaches ∙ opening) (ap (λ a. option_map_or is_suffix a false) inside) in
    elim (cases_lt 0 (longest (is_quoted q) s)) [
      | inl some ↦ some
      | inr none ↦ absurd (true≢false (sym passes ∙ longest_beyond (is_quoted q) s m (omega arith) le))
    ]

quoted_reaches : (q o : ℕ) (s : List ℕ) → Quote q o → 0 < longest (is_quoted q) s → encoding_len s < longest (is_quoted q) s
unfolding is_quoted
quoted_reaches q o s quote some =
    let k = longest (is_quoted q) s in
    opens_reaches q quote.some s k (and_parts (opens q (take k s)) _ (longest_passes (is_quoted q) s some)).0

-- the one class of a front that reaches the quote
char_alone : (u : List ℕ) → NoOther 39 34 u → is_token u ≡ is_quoted 39 u
char_alone u alone = rw (alone.name, alone.number, alone.other, alone.punct) (tidy (is_quoted 39 u)) where
  tidy : (b : Bool) → (false || false || b || false || false) ≡ b
  tidy true = refl
  tidy false = refl

str_alone : (u : List ℕ) → NoOther 34 39 u → is_token u ≡ is_quoted 34 u
str_alone u alone = rw (alone.name, alone.number, alone.other, alone.punct) (tidy (is_quoted 34 u)) where
  tidy : (b : Bool) → (false || false || false || b || false) ≡ b
  tidy true = refl
  tidy false = refl

quoted_token : (q o : ℕ) (s : List ℕ) → Quote q o → ((u : List ℕ) → NoOther q o u → is_token u ≡ is_quoted q u) → opens q s ≡ true → 0 < longest (is_quoted q) s
    → longest is_token s ≡ longest (is_quoted q) s
quoted_token q o s quote alone opening some =
    let k = longest (is_quoted q) s in
    let reaches = quoted_reaches q o s quote some in
    longest_is is_token s k (longest_le (is_quoted q) s)
    (λ z. alone (take k s) (no_other q o s k quote opening reaches) ∙ longest_passes (is_quoted q) s some)
    (λ m lt le. alone (take m s) (no_other q o s m quote opening (omega arith)) ∙ longest_beyond (is_quoted q) s m lt le)

pub char_token : (s : List ℕ) → opens 39 s ≡ true → 0 < longest (is_quoted 39) s → longest is_token s ≡ longest (is_quoted 39) s
char_token s opening some = quoted_token 39 34 s single char_alone opening some

pub str_token : (s : List ℕ) → opens 34 s ≡ true → 0 < longest (is_quoted 34) s → longest is_token s ≡ longest (is_quoted 34) s
str_token s opening some = quoted_token 34 39 s double str_alone opening some

pub char_kind : (s : List ℕ) → opens 39 s ≡ true → 0 < longest (is_quoted 39) s → kind_of (take (longest (is_quoted 39) s) s) ≡ Char
unfolding is_ident
char_kind s opening some =
    let k = longest (is_quoted 39) s in
    let front = no_other 39 34 s k single opening (quoted_reaches 39 34 s single some) in
    rw (front.punct, front.name, front.number, longest_passes (is_quoted 39) s some) refl

pub str_kind : (s : List ℕ) → opens 34 s ≡ true → 0 < longest (is_quoted 34) s → kind_of (take (longest (is_quoted 34) s) s) ≡ Str
unfolding is_ident
str_kind s opening some =
    let k = longest (is_quoted 34) s in
    let front = no_other 34 39 s k double opening (quoted_reaches 34 39 s double some) in
    rw (front.punct, front.name, front.number, front.other) refl
