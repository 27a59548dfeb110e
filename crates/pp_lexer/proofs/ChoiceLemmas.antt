-- The longest front that is a token is the longest of one class, which the first bytes tell.
use Rattle.std.proofs.Common.{◌≡◌, ℕ, zero, suc, ◌<◌, ◌≤◌, Bool, true, false, not, cond, ◌==◌, ◌&&◌, ◌||◌, List, [], ◌∷◌, refl, ap, sym, ◌∙◌, inl, inr, take, length, length-take, slice_index, arith}
use Rattle.std.proofs.lemmas.Bool.{and_parts, and_from, and_left, or_cases, or_left, or_right, or_from, eqb-true, not_from_true, not-true, agree_below_at, false_from_ne_true, true≢false}
use Rattle.std.specs.Char.{is_ascii_digit}
use Rattle.scan_model.specs.declared.token.Kind.{Kind}
use Rattle.scan_model.specs.declared.token.Kind.TheVariants.{Ident, Number, Punct}
use Rattle.scan_model.specs.Spelling.{first, is_start, is_name, is_alternative, is_ident, punctuators, is_number, is_quoted, is_punct, is_one_of, opens, longest}
use Rattle.scan_model.specs.Tokens.{is_token, kind_of}
use Rattle.scan_model.proofs.Computing.{reading}
use Rattle.scan_model.proofs.LongestLemmas.{longest_is, longest_le, longest_passes, longest_beyond}
use Rattle.pp_lexer.proofs.ClassLemmas.{begins_word, name_first, begins_digits, number_first, alternative_name, mark_first, mark_digits, digit_small}
use Rattle.pp_lexer.proofs.OpeningLemmas.{index-take, index_some, no_opens-take}

-- ## First bytes that exclude each other

digit_table : (c : ℕ) → c < 128 → (is_ascii_digit c && begins_word c) ≡ false
unfolding is_start
digit_table c h = agree_below_at (λ c. is_ascii_digit c && begins_word c) (λ c. false) 128 c refl h

dot_word : (c : ℕ) → c ≡ 46 → begins_word c ≡ false
unfolding is_start
dot_word c e = ap begins_word e

-- no word begins as a number does
pub digits_word : (s : List ℕ) → begins_digits s ≡ true → begins_word (first s) ≡ false
digits_word s h = elim (or_cases (is_ascii_digit (first s)) (first s == 46 && is_ascii_digit (slice_index s 1)) h) [
  | inl digit ↦ false_from_ne_true (begins_word (first s)) (λ e.
      true≢false (sym (and_from (is_ascii_digit (first s)) (begins_word (first s)) digit e) ∙ digit_table (first s) (digit_small (first s) digit)))
  | inr dotted ↦ dot_word (first s) (eqb-true (first s) 46 (and_parts (first s == 46) (is_ascii_digit (slice_index s 1)) dotted).0)
]

pub record Mark (c : ℕ) : Type 0 where
  pub word : begins_word c ≡ false
  pub double : (c == 34) ≡ false
  pub single : (c == 39) ≡ false

pub mark_facts : (s : List ℕ) → is_one_of punctuators s ≡ true → Mark (first s)
mark_facts s h =
    let c = first s in
    let a = and_parts (not (begins_word c) && not (c == 34) && not (c == 39)) (not (is_ascii_digit c)) (mark_first s h) in
    let b = and_parts (not (begins_word c) && not (c == 34)) (not (c == 39)) a.0 in
    let d = and_parts (not (begins_word c)) (not (c == 34)) b.0 in
    record { word = not-true (begins_word c) d.0; double = not-true (c == 34) d.1; single = not-true (c == 39) b.1 }

pub punct_no : (s : List ℕ) → is_name s ≡ false → is_one_of punctuators s ≡ false → is_punct s ≡ false
unfolding is_punct
punct_no s name one = or_from (is_alternative s) (is_one_of punctuators s)
    (false_from_ne_true (is_alternative s) (λ e. true≢false (sym (alternative_name s e) ∙ name))) one

pub token_no : (s : List ℕ) → is_name s ≡ false → is_number s ≡ false → is_quoted 39 s ≡ false → is_quoted 34 s ≡ false → is_punct s ≡ false → is_token s ≡ false
token_no s name number single double punct = rw (name, number, single, double, punct) refl

-- ## Where no quote opens

pub record Unquoted (s : List ℕ) : Type 0 where
  pub single : opens 39 s ≡ false
  pub double : opens 34 s ≡ false

no_quoted : (q : ℕ) → (q ≡ 0 → ⊥) → (s : List ℕ) → opens q s ≡ false → (m : ℕ) → is_quoted q (take m s) ≡ false
unfolding is_quoted
no_quoted q some s h m = and_left (opens q (take m s)) _ (no_opens-take q some s h m)

no_single : (s : List ℕ) → Unquoted s → (m : ℕ) → is_quoted 39 (take m s) ≡ false
no_single s u m = no_quoted 39 (λ e. omega (arith, e)) s u.single m

no_double : (s : List ℕ) → Unquoted s → (m : ℕ) → is_quoted 34 (take m s) ≡ false
no_double s u m = no_quoted 34 (λ e. omega (arith, e)) s u.double m

-- ### Names

pub first-take : (s : List ℕ) (m : ℕ) → 0 < m → first (take m s) ≡ first s
first-take s m h = index-take s m 0 h

no_name : is_name [] ≡ true → ⊥
unfolding reading
no_name h = let z : false ≡ true = h in cc

pub front_name : (s : List ℕ) (m : ℕ) → is_name (take m s) ≡ true → 0 < m → begins_word (first s) ≡ true
front_name s zero h some = absurd (omega arith)
front_name [] (suc m) h some = absurd (no_name h)
front_name (c ∷ s) (suc m) h some = name_first c (take m s) h

name_beyond : (s : List ℕ) → Unquoted s → begins_word (first s) ≡ true → (m : ℕ) → 0 < m → is_name (take m s) ≡ false → is_token (take m s) ≡ false
name_beyond s u word m some name =
    let same = first-take s m some in
    token_no (take m s) name
    (false_from_ne_true (is_number (take m s)) (λ e. true≢false (sym word ∙ ap begins_word (sym same) ∙ digits_word (take m s) (number_first (take m s) e))))
    (no_single s u m) (no_double s u m)
    (punct_no (take m s) name (false_from_ne_true (is_one_of punctuators (take m s)) (λ e.
    true≢false (sym word ∙ ap begins_word (sym same) ∙ (mark_facts (take m s) e).word))))

pub name_token : (s : List ℕ) → Unquoted s → 0 < longest is_name s → longest is_token s ≡ longest is_name s
name_token s u some =
    let k = longest is_name s in
    let name = longest_passes is_name s some in
    let word = front_name s k name some in
    longest_is is_token s k (longest_le is_name s)
    (λ z. rw name refl)
    (λ m lt le. name_beyond s u word m (omega arith) (longest_beyond is_name s m lt le))

pub name_kind : (s : List ℕ) → 0 < longest is_name s → kind_of (take (longest is_name s) s) ≡ cond (is_alternative (take (longest is_name s) s)) Punct Ident
unfolding is_punct is_ident
name_kind s some =
    let k = longest is_name s in
    let name = longest_passes is_name s some in
    let word = front_name s k name some in
    let one : is_one_of punctuators (take k s) ≡ false = false_from_ne_true (is_one_of punctuators (take k s)) (λ e.
    true≢false (sym word ∙ ap begins_word (sym (first-take s k some)) ∙ (mark_facts (take k s) e).word)) in
    tidy (is_alternative (take k s)) (is_one_of punctuators (take k s)) (is_name (take k s)) _ one name where
      tidy : (a b c : Bool) (k : Kind) → b ≡ false → c ≡ true → cond (a || b) Punct (cond (c && not a) Ident k) ≡ cond a Punct Ident
      tidy true b c k e f = refl
      tidy false b c k e f = rw (e, f) refl

-- ### Numbers

digit_some : (c : ℕ) → is_ascii_digit c ≡ true → c ≡ 0 → ⊥
digit_some c h e = true≢false (sym h ∙ ap is_ascii_digit e)

-- a byte of a front is there in a longer one
index_longer : (s : List ℕ) (k m i : ℕ) → k ≤ m → (slice_index (take k s) i ≡ 0 → ⊥) → slice_index (take m s) i ≡ slice_index (take k s) i
index_longer s k m i le some =
    let there = index_some (take k s) i some in
    let within : i < k = omega (arith, there, length-take k s) in
    index-take s m i (omega arith) ∙ sym (index-take s k i within)

pub digits_longer : (s : List ℕ) (k m : ℕ) → k ≤ m → begins_digits (take k s) ≡ true → begins_digits (take m s) ≡ true
digits_longer s k m le h =
    let u = take k s in
    elim (or_cases (is_ascii_digit (first u)) (first u == 46 && is_ascii_digit (slice_index u 1)) h) [
      | inl digit ↦ or_left _ _ (ap is_ascii_digit (index_longer s k m 0 le (digit_some (first u) digit)) ∙ digit)
      | inr dotted ↦
          let both = and_parts (first u == 46) (is_ascii_digit (slice_index u 1)) dotted in
          let dot : first u ≡ 46 = eqb-true (first u) 46 both.0 in
          or_right _ _ (and_from _ _
          (ap (λ c. c == 46) (index_longer s k m 0 le (λ e. omega (arith, e, dot))) ∙ both.0)
          (ap is_ascii_digit (index_longer s k m 1 le (digit_some (slice_index u 1) both.1)) ∙ both.1))
    ]

not_digits : (s : List ℕ) → begins_digits s ≡ true → is_one_of punctuators s ≡ false
not_digits s h = false_from_ne_true (is_one_of punctuators s) (λ e. true≢false (sym (mark_digits s e) ∙ not_from_true (begins_digits s) h))

no_names : (s : List ℕ) → longest is_name s ≡ 0 → (m : ℕ) → 0 < m → m ≤ length s → is_name (take m s) ≡ false
no_names s h m some le = longest_beyond is_name s m (omega arith) le

pub number_token : (s : List ℕ) → Unquoted s → longest is_name s ≡ 0 → 0 < longest is_number s → longest is_token s ≡ longest is_number s
number_token s u names some =
    let k = longest is_number s in
    let number = longest_passes is_number s some in
    let digits = number_first (take k s) number in
    longest_is is_token s k (longest_le is_number s)
    (λ z. rw number (or_true (is_name (take k s)) _ _ _))
    (λ m lt le.
    let name = no_names s names m (omega arith) le in
    token_no (take m s) name (longest_beyond is_number s m lt le) (no_single s u m) (no_double s u m)
    (punct_no (take m s) name (not_digits (take m s) (digits_longer s k m (omega arith) digits))))
  where
    or_true : (a b c d : Bool) → (a || true || b || c || d) ≡ true
    or_true true b c d = refl
    or_true false b c d = refl

pub number_kind : (s : List ℕ) → longest is_name s ≡ 0 → 0 < longest is_number s → kind_of (take (longest is_number s) s) ≡ Number
unfolding is_ident
number_kind s names some =
    let k = longest is_number s in
    let number = longest_passes is_number s some in
    let name = no_names s names k some (longest_le is_number s) in
    let punct = punct_no (take k s) name (not_digits (take k s) (number_first (take k s) number)) in
    rw (punct, name, number) refl

-- ### Punctuators

pub longest_same : (p q : List ℕ → Bool) (s : List ℕ) → ((m : ℕ) → 0 < m → m ≤ length s → p (take m s) ≡ q (take m s)) → longest p s ≡ longest q s
longest_same p q s same =
    let k = longest q s in
    longest_is p s k (longest_le q s) (λ z. same k z (longest_le q s) ∙ longest_passes q s z)
    (λ m lt le. same m (omega arith) le ∙ longest_beyond q s m lt le)

punct_alone : (s : List ℕ) → is_name s ≡ false → is_punct s ≡ is_one_of punctuators s
unfolding is_punct
punct_alone s name =
    let none : is_alternative s ≡ false = false_from_ne_true (is_alternative s) (λ e. true≢false (sym (alternative_name s e) ∙ name)) in
    rw none refl

pub punct_token : (s : List ℕ) → Unquoted s → longest is_name s ≡ 0 → longest is_number s ≡ 0 → longest is_token s ≡ longest (is_one_of punctuators) s
punct_token s u names numbers = longest_same is_token (is_one_of punctuators) s (λ m some le.
    let name = no_names s names m some le in
    let number = longest_beyond is_number s m (omega arith) le in
    rw (name, number, no_single s u m, no_double s u m) (punct_alone (take m s) name))

pub punct_kind : (s : List ℕ) → 0 < longest (is_one_of punctuators) s → kind_of (take (longest (is_one_of punctuators) s) s) ≡ Punct
unfolding is_punct
punct_kind s some =
    let one = longest_passes (is_one_of punctuators) s some in
    rw (or_right (is_alternative (take (longest (is_one_of punctuators) s) s)) _ one) refl
