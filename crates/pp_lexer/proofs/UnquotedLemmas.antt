-- The token where no quote opens, by what stands first.
use Rattle.std.proofs.Common.{◌≡◌, ℕ, ◌-◌, ◌<◌, ◌≤◌, Bool, true, false, cond, ◌==◌, ◌&&◌, ◌||◌, nat_eq, nat_lt, List, [], ◌∷◌, refl, inl, inr, ap, sym, ◌∙◌, take, drop, length, length-drop, slice_index, arith, codes}
use Rattle.std.proofs.lemmas.Bool.{and_parts, lt-ltb, ltb-true, ltb-false, eqb-true, false_from_ne_true, true≢false, cases_Bool, cond_both}
use Rattle.std.specs.List.{starts_with}
use Rattle.std.specs.Char.{is_ascii_digit}
use lib.Pointwise.{pointwise}
use Rattle.line_splice.specs.declared.cursor.Cursor.{Cursor}
use Rattle.line_splice.specs.Cursor.{rest}
use Rattle.lexeme_reader.specs.Fronts.{line, character_len}
use Rattle.lexeme_reader.proofs.SpotLemmas.{bytes-take}
use Rattle.scan_model.specs.declared.token.Kind.{Kind}
use Rattle.scan_model.specs.declared.token.Kind.TheVariants.{Ident, Number, Punct, Stray}
use Rattle.scan_model.specs.Spliced.{Spot}
use Rattle.scan_model.specs.Spelling.{first, is_start, is_name, is_number, is_alternative, is_one_of, punctuators, longest}
use Rattle.scan_model.specs.Tokens.{Lexeme, bytes, cut, is_token, kind_of, is_lone_less, is_character}
use Rattle.scan_model.proofs.RestLemmas.{take-rest_of_line}
use Rattle.scan_model.proofs.LongestLemmas.{longest_le, longest_passes}
use Rattle.pp_lexer.specs.declared.class.Class.TheVariants.{Name}
use Rattle.pp_lexer.specs.Classes.{told_kind}
use Rattle.pp_lexer.specs.Reads.{passed, IsAhead, GivesShown, mark_len, unquoted}
use Rattle.pp_lexer.proofs.PlaceLemmas.{line_is_within}
use Rattle.pp_lexer.proofs.MarkLemmas.{line_le}
use Rattle.pp_lexer.proofs.ClassLemmas.{begins_word, begins_digits, number_first}
use Rattle.pp_lexer.proofs.ChoiceLemmas.{Unquoted, digits_longer, front_name, name_token, name_kind, number_token, number_kind, punct_token, punct_kind}

-- ## What lies between two cursors

-- some bytes further on the same line
pub line_ahead : (at : Cursor) (n : ℕ) (new : List Spot) → 0 < length (line (rest at)) → n ≤ length (line (rest at)) → new ≡ drop n (rest at)
    → (IsAhead (rest at) new) × (passed (rest at) new ≡ take n (rest at))
line_ahead at n new some le is =
    let s = rest at in
    let on_line = line_le s in
    let within : length (line s) < length s = line_is_within at (λ e. let z : length s ≡ 0 = ap length e in omega (arith, some, on_line, z)) in
    let len : length new ≡ length (drop n s) = ap length is in
    let count : length s - length new ≡ n = omega (arith, len, le, within, length-drop n s) in (
      (λ e. let z : length new ≡ 0 = ap length e in absurd (omega (arith, z, len, le, within, length-drop n s)), is ∙ ap (λ k. drop k s) (sym count)),
      ap (λ k. take k s) count,
    )

-- and the lexeme of these bytes
pub shown_cut : (at : Cursor) (n : ℕ) (new : List Spot) (l : Lexeme) (kind : Kind) → 0 < length (line (rest at)) → n ≤ length (line (rest at)) → new ≡ drop n (rest at)
    → l ≡ cut kind n (rest at) → GivesShown l kind (rest at) new
shown_cut at n new l kind some le is cuts =
    let between = (line_ahead at n new some le is).1 in
    cuts ∙ ap (λ s. record { kind = kind; text = bytes s; left = drop n (rest at) }) (sym between) ∙ ap (λ s. record { kind = kind; text = bytes (passed (rest at) new); left = s }) (sym is)

-- the bytes of a front of the line
pub line_bytes : (s : List Spot) (n : ℕ) → n ≤ length (line s) → bytes (take n s) ≡ take n (line s)
line_bytes s n le = sym (bytes-take s n) ∙ sym (take-rest_of_line (bytes s) n le)

-- ## The choice

-- `<` stands first
pub lone_first : (s : List ℕ) → is_lone_less s ≡ true → first s ≡ 60
unfolding is_lone_less
lone_first [] h = absurd (true≢false (sym h))
lone_first (c ∷ s) h =
    let front = (and_parts (starts_with nat_eq (c ∷ s) (codes "<::")) _ h).0 in
    sym (eqb-true 60 c (and_parts (60 == c) (pointwise nat_eq (58 ∷ 58 ∷ []) (take 2 s)) front).0)

pub less_word : (c : ℕ) → c ≡ 60 → begins_word c ≡ false
unfolding is_start
less_word c e = ap begins_word e

no_lone : (s : List ℕ) → begins_word (first s) ≡ true → is_lone_less s ≡ false
no_lone s h = false_from_ne_true (is_lone_less s) (λ e. true≢false (sym h ∙ less_word (first s) (lone_first s e)))

digits_lone : (s : List ℕ) → begins_digits s ≡ true → is_lone_less s ≡ false
digits_lone s h = false_from_ne_true (is_lone_less s) (λ e.
    true≢false (sym h ∙ less_digits (first s) (slice_index s 1) (lone_first s e)))
  where
    less_digits : (c d : ℕ) → c ≡ 60 → (is_ascii_digit c || (c == 46 && is_ascii_digit d)) ≡ false
    less_digits c d e = ap (λ c. is_ascii_digit c || (c == 46 && is_ascii_digit d)) e

pub token_chosen : (spots : List Spot) (n : ℕ) (kind : Kind) → is_lone_less (line spots) ≡ false → longest is_token (line spots) ≡ n → 0 < n → kind_of (take n (line spots)) ≡ kind
    → unquoted spots ≡ cut kind n spots
token_chosen spots n kind lone len some is =
    let found : nat_lt 0 (longest is_token (line spots)) ≡ true = ap (nat_lt 0) len ∙ lt-ltb 0 n some in
    rw (lone, found) (ap (λ k. cut (kind_of (take k (line spots))) k spots) len ∙ ap (λ k. cut k n spots) is)

pub name_chosen : (spots : List Spot) → Unquoted (line spots) → 0 < longest is_name (line spots)
    → unquoted spots ≡ cut (cond (is_alternative (take (longest is_name (line spots)) (line spots))) Punct Ident) (longest is_name (line spots)) spots
name_chosen spots u some =
    let s = line spots in
    token_chosen spots (longest is_name s) _
    (no_lone s (front_name s (longest is_name s) (longest_passes is_name s some) some)) (name_token s u some) some (name_kind s some)

-- as the class of a name gives it
pub name_given : (at : Cursor) (new : List Spot) → Unquoted (line (rest at)) → 0 < length (line (rest at)) → 0 < longest is_name (line (rest at)) → new ≡ drop (longest is_name (line (rest at))) (rest at)
    → GivesShown (unquoted (rest at)) (told_kind Name (rest at) new) (rest at) new
name_given at new u some named left =
    let spots = rest at in
    let n = longest is_name (line spots) in
    let le = longest_le is_name (line spots) in
    let same : bytes (passed spots new) ≡ take n (line spots) = ap bytes (line_ahead at n new some le left).1 ∙ line_bytes spots n le in
    shown_cut at n new (unquoted spots) (told_kind Name spots new) some le left
    (name_chosen spots u named ∙ ap (λ s. cut (cond (is_alternative s) Punct Ident) n spots) (sym same))

pub number_chosen : (spots : List Spot) → Unquoted (line spots) → longest is_name (line spots) ≡ 0 → 0 < longest is_number (line spots)
    → unquoted spots ≡ cut Number (longest is_number (line spots)) spots
number_chosen spots u names some =
    let s = line spots in
    let n = longest is_number s in
    token_chosen spots n Number (digits_lone s (digits_whole s n (longest_le is_number s) (number_first (take n s) (longest_passes is_number s some))))
    (number_token s u names some) some (number_kind s names some)
  where
    take_whole : (s : List ℕ) → take (length s) s ≡ s
    take_whole [] = refl
    take_whole (c ∷ s) = ap (λ t. c ∷ t) (take_whole s)

    digits_whole : (s : List ℕ) (n : ℕ) → n ≤ length s → begins_digits (take n s) ≡ true → begins_digits s ≡ true
    digits_whole s n le h = ap begins_digits (sym (take_whole s)) ∙ digits_longer s n (length s) le h

pub mark_chosen : (spots : List Spot) → Unquoted (line spots) → longest is_name (line spots) ≡ 0 → longest is_number (line spots) ≡ 0 → 0 < mark_len (line spots)
    → unquoted spots ≡ cut Punct (mark_len (line spots)) spots
mark_chosen spots u names numbers some = let s = line spots in elim (cases_Bool (is_lone_less s)) [
  | inl lone ↦ rw lone refl
  | inr other ↦
      let len : mark_len s ≡ longest (is_one_of punctuators) s = rw other refl in
      token_chosen spots (longest (is_one_of punctuators) s) Punct other (punct_token s u names numbers) (omega arith) (punct_kind s (omega arith))
      ∙ ap (λ k. cut Punct k spots) (sym len)
]

pub stray_chosen : (spots : List Spot) → Unquoted (line spots) → longest is_name (line spots) ≡ 0 → longest is_number (line spots) ≡ 0 → mark_len (line spots) ≡ 0
    → unquoted spots ≡ cut Stray (character_len (line spots)) spots
stray_chosen spots u names numbers none = let s = line spots in elim (cases_Bool (is_lone_less s)) [
  | inl lone ↦ let one : mark_len s ≡ 1 = rw lone refl in absurd (omega arith)
  | inr other ↦
      let len : mark_len s ≡ longest (is_one_of punctuators) s = rw other refl in
      let zero_len : longest is_token s ≡ 0 = punct_token s u names numbers ∙ sym len ∙ none in
      let found : nat_lt 0 (longest is_token s) ≡ false = ap (nat_lt 0) zero_len in
      rw (other, found) refl
]

-- ## By what the code knows

pub character_le : (s : List ℕ) → 0 < length s → character_len s ≤ length s
character_le s some = cond_both (nat_lt 0 (longest is_character s)) (longest is_character s) 1 (λ n. n ≤ length s) (λ e. longest_le is_character s) (λ e. omega arith)

pub tested_some : (n : ℕ) (b : Bool) → b ≡ nat_lt 0 n → b ≡ true → 0 < n
tested_some n b e h = ltb-true 0 n (sym e ∙ h)

pub tested_none : (n : ℕ) (b : Bool) → b ≡ nat_lt 0 n → b ≡ false → n ≡ 0
tested_none n b e h = let z = ltb-false 0 n (sym e ∙ h) in omega arith
