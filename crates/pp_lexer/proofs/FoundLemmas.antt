-- What has been found between two cursors.
use Rattle.std.proofs.Common.{◌≡◌, ℕ, ◌<◌, true, false, ◌&&◌, nat_lt, List, refl, ap, sym, ◌∙◌, subst, drop, length, Option, Some, None}
use Rattle.std.proofs.lemmas.Bool.{and_parts, ltb-true}
use Rattle.line_splice.specs.declared.cursor.Cursor.{Cursor}
use Rattle.line_splice.specs.Cursor.{rest}
use Rattle.lexeme_reader.specs.declared.quoted.Quote.{Quote}
use Rattle.lexeme_reader.specs.declared.quoted.Opening.{Opening}
use Rattle.lexeme_reader.specs.declared.quoted.Opening.TheVariants.{Quoted, Raw}
use Rattle.lexeme_reader.specs.Fronts.{line}
use Rattle.lexeme_reader.specs.Quotes.{IsOpening}
use Rattle.scan_model.specs.declared.token.Kind.{Kind}
use Rattle.scan_model.specs.declared.token.Kind.TheVariants.{Header}
use Rattle.scan_model.specs.declared.token.Tok.{Tok}
use Rattle.scan_model.specs.Spliced.{Spot}
use Rattle.scan_model.specs.Spelling.{is_header, opens_raw, longest}
use Rattle.scan_model.specs.Tokens.{Lexeme, bytes, wants_header, is_open, lexeme, raw_lexeme}
use Rattle.scan_model.proofs.LongestLemmas.{longest_le}
use Rattle.pp_lexer.specs.declared.class.Passed.{Passed}
use Rattle.pp_lexer.specs.declared.lexeme.Found.{Found}
use Rattle.pp_lexer.specs.declared.lexeme.Spelling.TheVariants.{Shown}
use Rattle.pp_lexer.specs.Classes.{told_kind, found_of}
use Rattle.pp_lexer.specs.Lexemes.{is_raw, quote_of, IsQuoteAt, spelling_of, CanSpell, IsSpelled, GivesLexeme}
use Rattle.pp_lexer.specs.Reads.{passed, IsAhead, GivesShown, NoHeader, not_raw, unquoted}
use Rattle.pp_lexer.proofs.RuleLemmas.{header_rule, raw_rule, not_raw_rule, unquoted_closed}
use Rattle.pp_lexer.proofs.UnquotedLemmas.{line_ahead, shown_cut}

-- ## What shows

pub shown_spelled : (text : List ℕ) (found : Found) (before after : List Spot) → found.spelling ≡ Shown → IsAhead before after → IsSpelled text found before after
shown_spelled text found before after e h = subst (λ s. CanSpell text s before after) (sym e) h

pub shown_given : (text : List ℕ) (l : Lexeme) (found : Found) (kind : Kind) (before after : List Spot) → found.kind ≡ kind → found.spelling ≡ Shown → GivesShown l kind before after
    → GivesLexeme text l found before after
shown_given text l found kind before after e f h =
    h ∙ ap (λ k. record { kind = k; text = bytes (passed before after); left = after }) (sym e)
    ∙ ap (λ s. record { kind = found.kind; text = spelling_of text s before after; left = after }) (sym f)

-- ## Header names

pub record WantedHeader (at : Cursor) (before : List Tok) (new : List Spot) : Type 0 where
  pub some : 0 < length (line (rest at))
  pub test : (wants_header before && nat_lt 0 (longest is_header (line (rest at)))) ≡ true
  pub left : new ≡ drop (longest is_header (line (rest at))) (rest at)

pub header_ahead : (at : Cursor) (new : List Spot) → 0 < length (line (rest at)) → new ≡ drop (longest is_header (line (rest at))) (rest at) → IsAhead (rest at) new
header_ahead at new some left = (line_ahead at (longest is_header (line (rest at))) new some (longest_le is_header (line (rest at))) left).0

pub header_given : (text : List ℕ) (at : Cursor) (before : List Tok) (new : List Spot) → WantedHeader at before new → GivesShown (lexeme text before (rest at)) Header (rest at) new
header_given text at before new w =
    let n = longest is_header (line (rest at)) in
    let both = and_parts (wants_header before) (nat_lt 0 n) w.test in
    shown_cut at n new (lexeme text before (rest at)) Header w.some (longest_le is_header (line (rest at))) w.left
    (header_rule text before (rest at) both.0 (ltb-true 0 n both.1))

-- ## By how a literal opens

pub raw_opens : (o : Option Opening) (s : List ℕ) → IsOpening o s → is_raw o ≡ true → opens_raw s ≡ true
raw_opens None s h e = cc
raw_opens (Some Raw) s h e = h.0
raw_opens (Some (Quoted quote)) s h e = cc

pub quote_opens : (o : Option Opening) (s : List ℕ) → IsOpening o s → is_raw o ≡ false → (opens_raw s ≡ false) × IsQuoteAt (quote_of o) s
quote_opens None s h e = (h.0, (h.1, h.2))
quote_opens (Some Raw) s h e = cc
quote_opens (Some (Quoted quote)) s h e = (h.0, (h.1, h.2))

-- ## By the names of the code

none_at : (o : Option Quote) (s : List ℕ) → o ≡ None → IsQuoteAt o s → is_open s ≡ false
none_at None s e h = unquoted_closed s h.0 h.1
none_at (Some quote) s e h = cc

pub not_raw_unquoted : (spots : List Spot) (o : Option Quote) → o ≡ None → IsQuoteAt o (line spots) → not_raw spots ≡ unquoted spots
not_raw_unquoted spots o e h = rw (none_at o (line spots) e h) refl

pub raw_found : (text : List ℕ) (before : List Tok) (s after : List Spot) (o : Option Opening) (found : Found) → NoHeader before s → IsOpening o (line s) → is_raw o ≡ true
    → GivesLexeme text (raw_lexeme text s) found s after → GivesLexeme text (lexeme text before s) found s after
raw_found text before s after o found header opening raw given = raw_rule text before s header (raw_opens o (line s) opening raw) ∙ given

pub not_raw_found : (text : List ℕ) (before : List Tok) (s after : List Spot) (o : Option Opening) (kind : Kind) → NoHeader before s → IsOpening o (line s) → is_raw o ≡ false
    → GivesShown (not_raw s) kind s after → GivesShown (lexeme text before s) kind s after
not_raw_found text before s after o kind header opening raw given = not_raw_rule text before s header (quote_opens o (line s) opening raw).0 ∙ given

-- ## Where the kind is told

pub told : (text text1 : List ℕ) (before : List Tok) (s s1 after : List Spot) (p : Passed) (kind : Kind) → text1 ≡ text → s1 ≡ s → NoHeader before s
    → (NoHeader before s1 → GivesLexeme text1 (lexeme text1 before s1) (found_of p s1 after) s1 after) → kind ≡ told_kind p.class s1 after
    → GivesLexeme text (lexeme text before s) (record { kind = kind; spelling = p.spelling }) s after
told text text1 before s s1 after p kind e f header given is =
    let here : GivesLexeme text (lexeme text before s) (found_of p s1 after) s after =
    subst (λ u. GivesLexeme text (lexeme text before u) (found_of p s1 after) u after) f
    (subst (λ t. GivesLexeme t (lexeme t before s1) (found_of p s1 after) s1 after) e (given (subst (NoHeader before) (sym f) header))) in
    here ∙ ap (λ k. record { kind = k; text = spelling_of text p.spelling s after; left = after }) (sym is)

pub told_spelled : (text text1 : List ℕ) (s s1 after : List Spot) (p : Passed) → text1 ≡ text → s1 ≡ s → CanSpell text1 p.spelling s1 after → CanSpell text p.spelling s after
told_spelled text text1 s s1 after p e f h = subst (λ u. CanSpell text p.spelling u after) f (subst (λ t. CanSpell t p.spelling s1 after) e h)
