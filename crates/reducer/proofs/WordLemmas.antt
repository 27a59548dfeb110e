-- What the bytes at a line's front tell of its first token.
use Rattle.std.proofs.Common.{◌≡◌, ℕ, zero, suc, ◌+◌, ◌<◌, Bool, true, false, not, ◌&&◌, ◌||◌, ◌==◌, nat_eq, if◌then◌else◌, List, [], ◌∷◌, ◌++◌, refl, ap, sym, ◌∙◌, subst, inl, inr, ◌-◌, drop, take, length, slice_index, arith, codes, Option, Some, None}
use Rattle.std.proofs.lemmas.Bool.{and_parts, both_ways, cases_Bool, cond_both, eqb-true, eq-eqb, ne_eqb}
use Rattle.std.proofs.lemmas.List.{append_assoc}
use Rattle.std.specs.List.{starts_with}
use lib.Pointwise.{pointwise}
use Rattle.scan_model.specs.declared.token.Kind.{Kind}
use Rattle.scan_model.specs.declared.token.Kind.TheVariants.{Stray, Punct, Header}
use Rattle.scan_model.specs.declared.token.Tok.{Tok}
use Rattle.scan_model.specs.Spliced.{Spot}
use Rattle.scan_model.specs.Spelling.{opens_raw, encoding_len, is_delimited, after_raw, longest, is_header, is_suffix, spells}
use Rattle.scan_model.specs.Tokens.{from_place, Lexeme, begins, is_token, kind_of, bytes, after_blanks, cut, rest_of_line, raw_closed, raw_lexeme, written_after, lexeme, token_at, next_token}
use Rattle.scan_model.specs.Lines.{tok}
use Rattle.scan_model.proofs.LexemeCases.{lexeme_cases, stray_len}
use Rattle.scan_model.proofs.RestLemmas.{rest_of_line-cons}
use Rattle.scan_model.proofs.LineLemmas.{if_some}
use Rattle.reducer.specs.Directives.{is_text, may_begin_directive, begins_text}
use Rattle.reducer.proofs.TextLemmas.{not_true}

-- a token that is spelled so begins with bytes that show so
abbrev Shows : List ℕ → List Spot → Lexeme → Type 0
Shows word s l = pointwise nat_eq word l.text ≡ true → begins word s ≡ true

cut_shows : (kind : Kind) (n : ℕ) (word : List ℕ) (s : List Spot) → Shows word s (cut kind n s)
cut_shows kind n [] s h = refl
cut_shows kind zero (c ∷ word) s h = cc
cut_shows kind (suc n) (c ∷ word) [] h = cc
cut_shows kind (suc n) (c ∷ word) (x ∷ s) h =
    let both = and_parts (nat_eq c x.byte) (pointwise nat_eq word (bytes (take n s))) h in
    let here : (x.byte == c) ≡ true = eq-eqb x.byte c (sym (eqb-true c x.byte both.0)) in
    rw (here, cut_shows kind n word s both.1) refl

-- none of the bytes with which an encoding prefix or a raw string begins
abbrev is_prefix_byte : ℕ → Bool
is_prefix_byte c = c == 82 || c == 117 || c == 85 || c == 76

none_of_four : (a b c d : Bool) → (a || b || c || d) ≡ false → (a ≡ false) × (b ≡ false) × (c ≡ false) × (d ≡ false)
none_of_four false false false false h = (refl, refl, refl, refl)
none_of_four true b c d h = cc
none_of_four false true c d h = cc
none_of_four false false true d h = cc
none_of_four false false false true h = cc

no_prefix : (c : ℕ) (r : List ℕ) → (c == 117) ≡ false → (c == 85) ≡ false → (c == 76) ≡ false → encoding_len (c ∷ r) ≡ 0
no_prefix c r u big_u l =
    let other : (117 == c) ≡ false = ne_eqb 117 c (λ e. both_ways (c == 117) u (eq-eqb c 117 (sym e))) in
    let word : starts_with nat_eq (c ∷ r) (codes "u8") ≡ false = rw other refl in
    rw (word, u, big_u, l) refl

-- a raw string begins with such a byte
raw_byte : (c : ℕ) (r : List ℕ) → opens_raw (c ∷ r) ≡ true → is_prefix_byte c ≡ true
raw_byte c r h = elim (cases_Bool (is_prefix_byte c)) [
  | inl e ↦ e
  | inr e ↦
      let none = none_of_four (c == 82) (c == 117) (c == 85) (c == 76) e in
      let first = and_parts (slice_index (c ∷ r) (encoding_len (c ∷ r)) == 82) (slice_index (c ∷ r) (encoding_len (c ∷ r) + 1) == 34) h in
      let here : (c == 82) ≡ true = subst (λ k. (slice_index (c ∷ r) k == 82) ≡ true) (no_prefix c r none.1 none.2 none.3) first.0 in
      absurd (both_ways (c == 82) none.0 here)
]

-- the first byte of the spelling is the first that shows
abbrev Begins : ℕ → List ℕ → Spot → Lexeme → Type 0
Begins c word x l = pointwise nat_eq (c ∷ word) l.text ≡ true → c ≡ x.byte

front_begins : (c : ℕ) (word : List ℕ) (x : Spot) (s : List Spot) (n : ℕ) (more : List ℕ) → 0 < n → pointwise nat_eq (c ∷ word) (bytes (take n (x ∷ s)) ++ more) ≡ true → c ≡ x.byte
front_begins c word x s zero more some h = absurd (omega (arith, some))
front_begins c word x s (suc n) more some h = eqb-true c x.byte (and_parts (nat_eq c x.byte) (pointwise nat_eq word (bytes (take n s) ++ more)) h).0

cut_begins : (c : ℕ) (word : List ℕ) (x : Spot) (s : List Spot) (n : ℕ) → Begins c word x (cut Stray n (x ∷ s))
cut_begins c word x s zero h = cc
cut_begins c word x s (suc n) h = eqb-true c x.byte (and_parts (nat_eq c x.byte) (pointwise nat_eq word (bytes (take n s))) h).0

closed_begins : (text : List ℕ) (c : ℕ) (word : List ℕ) (x : Spot) (s : List Spot) (n : ℕ) (written : List ℕ) (after : Option (List ℕ)) (spots : List Spot) → 0 < n
    → Begins c word x (raw_closed text (bytes (take n (x ∷ s))) written after spots)
closed_begins text c word x s n written None spots some h = front_begins c word x s n written some h
closed_begins text c word x s n written (Some after) spots some h =
    let inside = take (length written - length after) written in
    let from = from_place (length text - length after) spots in
    let suffix = bytes (take (longest is_suffix (bytes from)) from) in
    front_begins c word x s n (inside ++ suffix) some (subst (λ t. pointwise nat_eq (c ∷ word) t ≡ true) (append_assoc (bytes (take n (x ∷ s))) inside suffix) h)

raw_begins : (text : List ℕ) (c : ℕ) (word : List ℕ) (x : Spot) (s : List Spot) → Begins c word x (raw_lexeme text (x ∷ s))
unfolding raw_lexeme
raw_begins text c word x s =
    let quote = encoding_len (bytes (x ∷ s)) + 1 in
    let written = written_after text (drop quote (x ∷ s)) in
    cond_both (is_delimited written) (raw_closed text (bytes (take (quote + 1) (x ∷ s))) written (after_raw written) (drop (quote + 1) (x ∷ s)))
    (cut Stray (length (rest_of_line (bytes (x ∷ s)))) (x ∷ s)) (Begins c word x)
    (λ e. closed_begins text c word x s (quote + 1) written (after_raw written) (drop (quote + 1) (x ∷ s)) (omega arith))
    (λ e. cut_begins c word x s (length (rest_of_line (bytes (x ∷ s)))))

raw_shows : (text : List ℕ) (c : ℕ) (word : List ℕ) (x : Spot) (s : List Spot) → is_prefix_byte c ≡ false → (x.byte == 10) ≡ false → opens_raw (rest_of_line (bytes (x ∷ s))) ≡ true
    → Shows (c ∷ word) (x ∷ s) (raw_lexeme text (x ∷ s))
raw_shows text c word x s other lf raw h =
    let here = raw_byte x.byte (rest_of_line (bytes s)) (subst (λ b. opens_raw b ≡ true) (rest_of_line-cons x.byte (bytes s) lf) raw) in
    absurd (both_ways (is_prefix_byte c) other (ap is_prefix_byte (raw_begins text c word x s h) ∙ here))

lexeme_shows : (text : List ℕ) (before : List Tok) (c : ℕ) (word : List ℕ) (x : Spot) (s : List Spot) → is_prefix_byte c ≡ false → (x.byte == 10) ≡ false
    → Shows (c ∷ word) (x ∷ s) (lexeme text before (x ∷ s))
lexeme_shows text before c word x s other lf =
    let b = rest_of_line (bytes (x ∷ s)) in
    let n = longest is_token b in
    lexeme_cases text before (x ∷ s) (Shows (c ∷ word) (x ∷ s)) (λ e. cut_shows Header (longest is_header b) (c ∷ word) (x ∷ s))
    (λ raw. raw_shows text c word x s other lf raw) (λ e. cut_shows Stray (length b) (c ∷ word) (x ∷ s)) (λ e. cut_shows Punct 1 (c ∷ word) (x ∷ s))
    (λ e. cut_shows (kind_of (take n b)) n (c ∷ word) (x ∷ s)) (cut_shows Stray (stray_len b) (c ∷ word) (x ∷ s))

-- ## The first token of a line

first_shows : (text : List ℕ) (c : ℕ) (word : List ℕ) (s : List Spot) (l : Lexeme) → is_prefix_byte c ≡ false → token_at text [] s ≡ Some l → begins (c ∷ word) s ≡ false → pointwise nat_eq (c ∷ word) l.text ≡ false
first_shows text c word [] l other e none = cc
first_shows text c word (x ∷ s) l other e none =
    let both = if_some (x.byte == 10) (lexeme text [] (x ∷ s)) l e in
    elim (cases_Bool (pointwise nat_eq (c ∷ word) l.text)) [
      | inl shows ↦ absurd (both_ways (begins (c ∷ word) (x ∷ s)) none
          (lexeme_shows text [] c word x s other both.0 (subst (λ m. pointwise nat_eq (c ∷ word) m.text ≡ true) (sym both.1) shows)))
      | inr other' ↦ other'
    ]

none_of_five : (a b c d e : Bool) → (a || (b || (c || (d || (e || false))))) ≡ false → (a ≡ false) × (b ≡ false) × (c ≡ false) × (d ≡ false) × (e ≡ false)
none_of_five false false false false false h = (refl, refl, refl, refl, refl)
none_of_five true b c d e h = cc
none_of_five false true c d e h = cc
none_of_five false false true d e h = cc
none_of_five false false false true e h = cc
none_of_five false false false false true h = cc

text_of_words : (s d i m e : Bool) → s ≡ false → d ≡ false → i ≡ false → m ≡ false → e ≡ false
    → (not (((s || (d || false)) || (false || false)) || (e && (false || false))) && not (i || (m || (e || false)))) ≡ true
text_of_words s d i m e p q r t u = rw (p, q, r, t, u) refl

-- where no directive may begin, the first token tells so
at_text : (text : List ℕ) (s : List Spot) (l : Lexeme) (t : Tok) → begins_text s ≡ true → token_at text [] s ≡ Some l → t.text ≡ l.text → is_text (t ∷ []) ≡ true
at_text text [] l t h e same = cc
at_text text (x ∷ s) l t h e same =
    let at = x ∷ s in
    let two = and_parts (not (x.byte == 10)) (not (may_begin_directive at)) h in
    let none = none_of_five (begins (codes "#") at) (begins (codes "%:") at) (begins (codes "import") at) (begins (codes "module") at) (begins (codes "export") at) (not_true _ two.1) in
    text_of_words (spells "#" t.text) (spells "%:" t.text) (spells "import" t.text) (spells "module" t.text) (spells "export" t.text)
    (ap (spells "#") same ∙ first_shows text 35 [] at l refl e none.0)
    (ap (spells "%:") same ∙ first_shows text 37 (codes ":") at l refl e none.1)
    (ap (spells "import") same ∙ first_shows text 105 (codes "mport") at l refl e none.2)
    (ap (spells "module") same ∙ first_shows text 109 (codes "odule") at l refl e none.3)
    (ap (spells "export") same ∙ first_shows text 101 (codes "xport") at l refl e none.4)

tok-text : (text : List ℕ) (before : List Tok) (s : List Spot) (l : Lexeme) → (tok text before s l).text ≡ l.text
unfolding tok
tok-text text before s l = refl

pub begins_text-tok : (text : List ℕ) (s : List Spot) (l : Lexeme) → begins_text (after_blanks s) ≡ true → next_token text [] s ≡ Some l → is_text (tok text [] s l ∷ []) ≡ true
unfolding next_token
begins_text-tok text s l h e = at_text text (after_blanks s) l (tok text [] s l) h e (tok-text text [] s l)

pub begins_text-some : (text : List ℕ) (s : List Spot) → begins_text (after_blanks s) ≡ true → next_token text [] s ≡ None → ⊥
unfolding next_token
begins_text-some text s h e = some (after_blanks s) h e where
  some : (at : List Spot) → begins_text at ≡ true → token_at text [] at ≡ None → ⊥
  some [] h e = cc
  some (x ∷ at) h e =
      let first = and_parts (not (x.byte == 10)) (not (may_begin_directive (x ∷ at))) h in
      let other = not_true (x.byte == 10) first.0 in
      let found : token_at text [] (x ∷ at) ≡ Some (lexeme text [] (x ∷ at)) = rw other refl in cc
