-- The lexeme, by the first rule that applies.
use Rattle.std.proofs.Common.{◌≡◌, ℕ, ◌<◌, ◌≤◌, Bool, true, false, ◌==◌, List, refl, ap, sym, ◌∙◌, inl, inr, drop, length, arith, Option, Some, None, is_none, is_some}
use Rattle.std.proofs.lemmas.Bool.{and_from, and_left, and_right, or_from, or_left, or_right, lt-ltb, false_from_ne_true, true≢false, OnTrue_at, OnFalse_at, cases_Bool}
use Rattle.std.specs.Bool.{OnTrue, OnFalse}
use Rattle.line_splice.specs.declared.cursor.Cursor.{Cursor}
use Rattle.line_splice.specs.Cursor.{rest}
use Rattle.lexeme_reader.specs.declared.quoted.Quote.{Quote as QuoteIn}
use Rattle.lexeme_reader.specs.declared.quoted.Quote.TheVariants.{Single, Double}
use Rattle.lexeme_reader.specs.Quotes.{quote_byte, other_quote}
use Rattle.lexeme_reader.specs.Fronts.{line}
use Rattle.scan_model.specs.declared.token.Kind.TheVariants.{Header, Char, Str, Stray}
use Rattle.scan_model.specs.declared.token.Tok.{Tok}
use Rattle.scan_model.specs.Spliced.{Spot}
use Rattle.scan_model.specs.Spelling.{first, is_header, is_quoted, opens, opens_raw, after_quoted, longest}
use Rattle.scan_model.specs.Tokens.{cut, wants_header, is_open, is_lone_less, raw_lexeme, lexeme}
use Rattle.scan_model.proofs.LongestLemmas.{longest_le}
use Rattle.pp_lexer.specs.Reads.{IsAhead, GivesShown, NoHeader, unquoted, not_raw}
use Rattle.pp_lexer.specs.Lexemes.{literal_kind}
use Rattle.pp_lexer.proofs.UnquotedLemmas.{lone_first, less_word, token_chosen, line_ahead, shown_cut}
use Rattle.pp_lexer.proofs.QuoteLemmas.{single, double, opened_first, quoted_some, char_token, char_kind, str_token, str_kind}

pub header_rule : (text : List ℕ) (before : List Tok) (spots : List Spot) → wants_header before ≡ true → 0 < longest is_header (line spots)
    → lexeme text before spots ≡ cut Header (longest is_header (line spots)) spots
unfolding lexeme
header_rule text before spots wants some = rw (wants, lt-ltb 0 (longest is_header (line spots)) some) refl

pub raw_rule : (text : List ℕ) (before : List Tok) (spots : List Spot) → NoHeader before spots → opens_raw (line spots) ≡ true → lexeme text before spots ≡ raw_lexeme text spots
unfolding lexeme
raw_rule text before spots header raw = rw (header, raw) refl

pub open_rule : (text : List ℕ) (before : List Tok) (spots : List Spot) → NoHeader before spots → opens_raw (line spots) ≡ false → is_open (line spots) ≡ true
    → lexeme text before spots ≡ cut Stray (length (line spots)) spots
unfolding lexeme
open_rule text before spots header raw open_quote = rw (header, raw, open_quote) refl

pub other_rule : (text : List ℕ) (before : List Tok) (spots : List Spot) → NoHeader before spots → opens_raw (line spots) ≡ false → is_open (line spots) ≡ false
    → lexeme text before spots ≡ unquoted spots
unfolding lexeme
other_rule text before spots header raw closed = rw (header, raw, closed) refl

pub not_raw_rule : (text : List ℕ) (before : List Tok) (spots : List Spot) → NoHeader before spots → opens_raw (line spots) ≡ false → lexeme text before spots ≡ not_raw spots
not_raw_rule text before spots header raw = elim (cases_Bool (is_open (line spots))) [
  | inl open_quote ↦ open_rule text before spots header raw open_quote ∙ rw open_quote refl
  | inr closed ↦ other_rule text before spots header raw closed ∙ rw closed refl
]

-- ## Whether a quote is closed

pub single_open : (s : List ℕ) → opens 39 s ≡ true → is_none (after_quoted 39 s) ≡ true → is_open s ≡ true
unfolding is_open
single_open s opening none = or_left _ _ (and_from (opens 39 s) _ opening none)

pub double_open : (s : List ℕ) → opens 34 s ≡ true → is_none (after_quoted 34 s) ≡ true → is_open s ≡ true
unfolding is_open
double_open s opening none = or_right _ _ (and_from (opens 34 s) _ opening none)

pub single_closed : (s : List ℕ) → opens 34 s ≡ false → is_none (after_quoted 39 s) ≡ false → is_open s ≡ false
unfolding is_open
single_closed s other none = or_from _ _ (and_right (opens 39 s) _ none) (and_left (opens 34 s) _ other)

pub double_closed : (s : List ℕ) → opens 39 s ≡ false → is_none (after_quoted 34 s) ≡ false → is_open s ≡ false
unfolding is_open
double_closed s other none = or_from _ _ (and_left (opens 39 s) _ other) (and_right (opens 34 s) _ none)

pub unquoted_closed : (s : List ℕ) → opens 39 s ≡ false → opens 34 s ≡ false → is_open s ≡ false
unfolding is_open
unquoted_closed s one two = or_from _ _ (and_left (opens 39 s) _ one) (and_left (opens 34 s) _ two)

-- ## A closed quote

some_after : (o : Option (List ℕ)) → is_none o ≡ false → (r : List ℕ) × (o ≡ Some r)
some_after None h = absurd (true≢false h)
some_after (Some r) h = (r, refl)

no_lone : (q : ℕ) (s : List ℕ) → ((q == 60) ≡ false) → opens q s ≡ true → is_lone_less s ≡ false
no_lone q s other opening = false_from_ne_true (is_lone_less s) (λ e. elim (opened_first q s opening) [
  | inl word ↦ true≢false (sym word ∙ less_word (first s) (lone_first s e))
  | inr here ↦ let same : q ≡ 60 = sym here ∙ lone_first s e in true≢false (sym (ap (λ c. c == 60) same) ∙ other)
])

pub single_chosen : (spots : List Spot) → opens 39 (line spots) ≡ true → is_none (after_quoted 39 (line spots)) ≡ false → unquoted spots ≡ cut Char (longest (is_quoted 39) (line spots)) spots
single_chosen spots opening after =
    let s = line spots in
    let r = some_after (after_quoted 39 s) after in
    let some = quoted_some 39 34 s r.0 single opening r.1 in
    token_chosen spots (longest (is_quoted 39) s) Char (no_lone 39 s refl opening) (char_token s opening some) some (char_kind s opening some)

pub double_chosen : (spots : List Spot) → opens 34 (line spots) ≡ true → is_none (after_quoted 34 (line spots)) ≡ false → unquoted spots ≡ cut Str (longest (is_quoted 34) (line spots)) spots
double_chosen spots opening after =
    let s = line spots in
    let r = some_after (after_quoted 34 s) after in
    let some = quoted_some 34 39 s r.0 double opening r.1 in
    token_chosen spots (longest (is_quoted 34) s) Str (no_lone 34 s refl opening) (str_token s opening some) some (str_kind s opening some)

-- ## A literal

no_none : (o : Option (List ℕ)) → true ≡ is_some o → is_none o ≡ false
no_none None h = cc
no_none (Some r) h = refl

no_some : (o : Option (List ℕ)) → false ≡ is_some o → is_none o ≡ true
no_some None h = refl
no_some (Some r) h = cc

pub record Literal (at : Cursor) (quote : QuoteIn) (closed : Bool) (new : List Spot) : Type 0 where
  pub some : 0 < length (line (rest at))
  pub opening : opens (quote_byte quote) (line (rest at)) ≡ true
  pub other : opens (quote_byte (other_quote quote)) (line (rest at)) ≡ false
  pub value : closed ≡ is_some (after_quoted (quote_byte quote) (line (rest at)))
  pub whole : OnTrue closed (new ≡ drop (longest (is_quoted (quote_byte quote)) (line (rest at))) (rest at))
  pub cut_off : OnFalse closed (new ≡ drop (length (line (rest at))) (rest at))

abbrev pub Given : Cursor → QuoteIn → Bool → List Spot → Type 0
Given at quote closed new = (IsAhead (rest at) new) × (GivesShown (not_raw (rest at)) (literal_kind quote closed) (rest at) new)

given : (at : Cursor) (quote : QuoteIn) (closed : Bool) (n : ℕ) (new : List Spot) → 0 < length (line (rest at)) → n ≤ length (line (rest at)) → new ≡ drop n (rest at)
    → not_raw (rest at) ≡ cut (literal_kind quote closed) n (rest at) → Given at quote closed new
given at quote closed n new some le left cuts = ((line_ahead at n new some le left).0, shown_cut at n new (not_raw (rest at)) (literal_kind quote closed) some le left cuts)

pub literal_given : (at : Cursor) (quote : QuoteIn) (closed : Bool) (new : List Spot) → Literal at quote closed new → Given at quote closed new
literal_given at Single true new l =
    let s = line (rest at) in
    let none = no_none (after_quoted 39 s) l.value in
    given at Single true (longest (is_quoted 39) s) new l.some (longest_le (is_quoted 39) s) (OnTrue_at refl l.whole)
    (rw (single_closed s l.other none) (single_chosen (rest at) l.opening none))
literal_given at Double true new l =
    let s = line (rest at) in
    let none = no_none (after_quoted 34 s) l.value in
    given at Double true (longest (is_quoted 34) s) new l.some (longest_le (is_quoted 34) s) (OnTrue_at refl l.whole)
    (rw (double_closed s l.other none) (double_chosen (rest at) l.opening none))
literal_given at Single false new l =
    let s = line (rest at) in
    given at Single false (length s) new l.some (omega arith) (OnFalse_at refl l.cut_off) (rw (single_open s l.opening (no_some (after_quoted 39 s) l.value)) refl)
literal_given at Double false new l =
    let s = line (rest at) in
    given at Double false (length s) new l.some (omega arith) (OnFalse_at refl l.cut_off) (rw (double_open s l.opening (no_some (after_quoted 34 s) l.value)) refl)
