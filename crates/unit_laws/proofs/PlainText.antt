-- The lines of a text have no keyword of the stream, and each token has its line's number.
use Rattle.std.proofs.Common.{◌≡◌, ℕ, zero, suc, ◌+◌, Bool, true, false, ◌&&◌, ◌==◌, nat_lt, if◌then◌else◌, List, [], ◌∷◌, ◌++◌, take, drop, length, refl, add-one, Option, Some, None}
use Rattle.std.specs.Prelude.{⊤}
use Rattle.std.specs.Option.{option_map_or}
use Rattle.std.specs.List.{AllByRecursion}
use Rattle.scan_model.specs.declared.token.Kind.{Kind}
use Rattle.scan_model.specs.declared.token.Kind.TheVariants.{Ident, Number, Char, Str, Header, Punct, Stray}
use Rattle.scan_model.specs.declared.token.Tok.{Tok}
use Rattle.scan_model.specs.declared.token.Line.{Line}
use Rattle.scan_model.specs.Spliced.{Spot, shown, spliced, line_at}
use Rattle.scan_model.specs.Spelling.{is_ident, is_number, is_char, is_punct, is_header, encoding_len, opens_raw, is_delimited, after_raw, longest}
use Rattle.scan_model.specs.Tokens.{Lexeme, bytes, next_blank, after_blanks, cut, wants_header, is_token, kind_of, is_character, rest_of_line, is_open, is_lone_less, written_after, raw_closed, raw_lexeme, lexeme, token_at, next_token}
use Rattle.scan_model.specs.Lines.{tok, closed, lines_up_to, lines_from, lines}
use Rattle.unit_laws.specs.Streams.{is_stream_kind}

-- ## Kinds

abbrev pub IsPlain : Kind → Type 0
IsPlain kind = is_stream_kind kind ≡ false

plain_if : (b : Bool) (kind other : Kind) → IsPlain kind → IsPlain other → IsPlain (if b then kind else other)
plain_if true kind other h k = h
plain_if false kind other h k = k

pub kind_plain : (s : List ℕ) → IsPlain (kind_of s)
kind_plain s =
    plain_if (is_punct s) Punct _ refl (plain_if (is_ident s) Ident _ refl (plain_if (is_number s) Number _ refl (plain_if (is_char s) Char Str refl refl)))

-- ## Tokens

-- the text is empty or begins with the byte c
abbrev pub StartsAs : ℕ → List ℕ → Type 0
StartsAs c [] = ⊤
StartsAs c (d ∷ s) = d ≡ c

abbrev Fits : ℕ → Lexeme → Type 0
Fits c l = IsPlain l.kind × StartsAs c l.text

fits_if : (b : Bool) (c : ℕ) (l m : Lexeme) → Fits c l → Fits c m → Fits c (if b then l else m)
fits_if true c l m h k = h
fits_if false c l m h k = k

cut_fits : (kind : Kind) (n : ℕ) (x : Spot) (spots : List Spot) → IsPlain kind → Fits (x.byte) (cut kind n (x ∷ spots))
cut_fits kind zero x spots h = (h, tt)
cut_fits kind (suc n) x spots h = (h, refl)

-- so do a raw string and one without its end: the text begins with one byte or more of what stands there
starts_before : (n : ℕ) (x : Spot) (spots : List Spot) (s : List ℕ) → StartsAs (x.byte) (bytes (take (n + 1) (x ∷ spots)) ++ s)
starts_before n x spots s = rw (add-one n) refl

closed_fits : (text : List ℕ) (n : ℕ) (x : Spot) (spots : List Spot) (written : List ℕ) (after : Option (List ℕ)) (rest : List Spot) →
    Fits (x.byte) (raw_closed text (bytes (take (n + 1) (x ∷ spots))) written after rest)
closed_fits text n x spots written None rest = (refl, starts_before n x spots written)
closed_fits text n x spots written (Some after) rest =
    (refl, rw (add-one n) refl)

raw_fits : (text : List ℕ) (x : Spot) (spots : List Spot) → Fits (x.byte) (raw_lexeme text (x ∷ spots))
unfolding raw_lexeme
raw_fits text x spots =
    let quote = encoding_len (bytes (x ∷ spots)) + 1 in
    let written = written_after text (drop quote (x ∷ spots)) in
    fits_if (is_delimited written) (x.byte) _ _
    (closed_fits text quote x spots written (after_raw written) (drop (quote + 1) (x ∷ spots)))
    (cut_fits Stray (length (rest_of_line (bytes (x ∷ spots)))) x spots refl)

pub lexeme_fits : (text : List ℕ) (before : List Tok) (x : Spot) (spots : List Spot) → Fits (x.byte) (lexeme text before (x ∷ spots))
unfolding lexeme
lexeme_fits text before x spots =
    let s = rest_of_line (bytes (x ∷ spots)) in
    let header = longest is_header s in
    let n = longest is_token s in
    let character = longest is_character s in
    fits_if (wants_header before && nat_lt 0 header) (x.byte) _ _ (cut_fits Header header x spots refl)
    (fits_if (opens_raw s) (x.byte) _ _ (raw_fits text x spots)
    (fits_if (is_open s) (x.byte) _ _ (cut_fits Stray (length s) x spots refl)
    (fits_if (is_lone_less s) (x.byte) _ _ (cut_fits Punct 1 x spots refl)
    (fits_if (nat_lt 0 n) (x.byte) _ _ (cut_fits (kind_of (take n s)) n x spots (kind_plain (take n s)))
    (cut_fits Stray (if nat_lt 0 character then character else 1) x spots refl)))))

abbrev NextPlain : Option Lexeme → Type 0
NextPlain None = ⊤
NextPlain (Some l) = IsPlain l.kind

next_if : (b : Bool) (o p : Option Lexeme) → NextPlain o → NextPlain p → NextPlain (if b then o else p)
next_if true o p h k = h
next_if false o p h k = k

at_plain : (text : List ℕ) (before : List Tok) (spots : List Spot) → NextPlain (token_at text before spots)
at_plain text before [] = tt
at_plain text before (x ∷ spots) = next_if (x.byte == 10) None (Some (lexeme text before (x ∷ spots))) tt (lexeme_fits text before x spots).0

next_plain : (text : List ℕ) (before : List Tok) (spots : List Spot) → NextPlain (next_token text before spots)
unfolding next_token
next_plain text before spots = at_plain text before (after_blanks spots)

-- ## Lines

-- no keyword, and all on this line
abbrev pub OnLine : ℕ → List Tok → Type 0
OnLine line toks = AllByRecursion (λ t. IsPlain t.kind × (t.line ≡ line)) toks

abbrev pub IsPlainLine : Line → Type 0
IsPlainLine l = OnLine l.line l.toks

abbrev pub ArePlainLines : List Line → Type 0
ArePlainLines ls = AllByRecursion IsPlainLine ls

-- on the line of the first of them
abbrev OnOne : List Tok → Type 0
OnOne [] = ⊤
OnOne (t ∷ toks) = OnLine t.line (t ∷ toks)

plain_append : (ls ms : List Line) → ArePlainLines ls → ArePlainLines ms → ArePlainLines (ls ++ ms)
plain_append [] ms h k = k
plain_append (l ∷ ls) ms h k = (h.0, plain_append ls ms h.1 k)

line_append : (line : ℕ) (toks : List Tok) (t : Tok) → OnLine line toks → IsPlain t.kind → t.line ≡ line → OnLine line (toks ++ t ∷ [])
line_append line [] t h k e = ((k, e), tt)
line_append line (u ∷ toks) t h k e = (h.0, line_append line toks t h.1 k e)

one_more : (text : List ℕ) (before : List Tok) (spots : List Spot) (l : Lexeme) → OnOne before → IsPlain l.kind → OnOne (before ++ tok text before spots l ∷ [])
unfolding tok
one_more text [] spots l h k = ((k, refl), tt)
one_more text (t ∷ toks) spots l h k = (h.0, line_append (t.line) toks (tok text (t ∷ toks) spots l) h.1 k refl)

closed_plain : (before : List Tok) (last : ℕ) → OnOne before → ArePlainLines (closed before last)
closed_plain [] last h = tt
closed_plain (t ∷ toks) last h = (h, tt)

step_plain : (o : Option Lexeme) (f : Lexeme → List Line) (later : List Line) → NextPlain o → ((l : Lexeme) → IsPlain l.kind → ArePlainLines (f l)) → ArePlainLines later →
    ArePlainLines (option_map_or f o later)
step_plain None f later h each k = k
step_plain (Some l) f later h each k = each l h

up_to_plain : (n : ℕ) (text : List ℕ) (before : List Tok) (spots : List Spot) → OnOne before → ArePlainLines (lines_up_to n text before spots)
up_to_plain zero text before spots h = closed_plain before (line_at text spots) h
up_to_plain (suc n) text before spots h =
    step_plain (next_token text before spots) (λ l. lines_up_to n text (before ++ tok text before spots l ∷ []) l.left) _ (next_plain text before spots)
    (λ l k. up_to_plain n text (before ++ tok text before spots l ∷ []) l.left (one_more text before spots l h k))
    (plain_append (closed before (line_at text (after_blanks spots))) (lines_up_to n text [] (drop 1 (after_blanks spots)))
    (closed_plain before (line_at text (after_blanks spots)) h) (up_to_plain n text [] (drop 1 (after_blanks spots)) tt))

pub lines_plain : (text : List ℕ) → ArePlainLines (lines text)
unfolding lines lines_from
lines_plain text = up_to_plain (length (spliced text)) text [] (spliced text) tt

-- ## A text that begins with `#`, which is 35

abbrev pub BeginsAs : ℕ → List Tok → Type 0
BeginsAs c [] = ⊤
BeginsAs c (t ∷ toks) = StartsAs c t.text

abbrev pub FirstBegins : ℕ → List Line → Type 0
FirstBegins c [] = ⊤
FirstBegins c (l ∷ ls) = BeginsAs c l.toks

first_step : (c : ℕ) (o : Option Lexeme) (f : Lexeme → List Line) (later : List Line) → ((l : Lexeme) → FirstBegins c (f l)) → FirstBegins c later →
    FirstBegins c (option_map_or f o later)
first_step c None f later each k = k
first_step c (Some l) f later each k = each l

first_stays : (n c : ℕ) (text : List ℕ) (t : Tok) (toks : List Tok) (spots : List Spot) → StartsAs c t.text → FirstBegins c (lines_up_to n text (t ∷ toks) spots)
first_stays zero c text t toks spots h = h
first_stays (suc n) c text t toks spots h =
    first_step c (next_token text (t ∷ toks) spots) (λ l. lines_up_to n text (t ∷ toks ++ tok text (t ∷ toks) spots l ∷ []) l.left) _
    (λ l. first_stays n c text t (toks ++ tok text (t ∷ toks) spots l ∷ []) l.left h) h

starts_tok : (c : ℕ) (text : List ℕ) (before : List Tok) (spots : List Spot) (l : Lexeme) → StartsAs c l.text → StartsAs c (tok text before spots l).text
unfolding tok
starts_tok c text before spots l h = h

pub hash_first : (s : List ℕ) → FirstBegins 35 (lines (35 ∷ s))
unfolding lines lines_from spliced shown next_token after_blanks next_blank
hash_first s =
    let spots = shown 35 35 1 1 s in
    let x : Spot = record { byte = 35; place = 0; line = 1 } in
    let l = lexeme (35 ∷ s) [] (x ∷ spots) in
    first_stays (length spots) 35 (35 ∷ s) (tok (35 ∷ s) [] (x ∷ spots) l) [] l.left (starts_tok 35 (35 ∷ s) [] (x ∷ spots) l (lexeme_fits (35 ∷ s) [] x spots).1)
