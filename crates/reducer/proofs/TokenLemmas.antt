-- Every identifier in the lines of a text is well-formed UTF-8, and no line has more tokens than bytes show.
use Rattle.std.proofs.Common.{◌≡◌, ◌≤◌, ℕ, zero, suc, Bool, true, false, cond, ◌==◌, List, [], ◌∷◌, ◌++◌, length, take, drop, Option, Some, None, All, IsTrue, ◌<◌, length-append, length-drop, arith, refl, sym, subst, ◌∙◌, inl, inr}
use Rattle.std.specs.Prelude.{◌+◌, if◌then◌else◌, nat_lt, ◌&&◌}
use Rattle.std.specs.Option.{option_map_or}
use Rattle.std.specs.Str.{is_utf8}
use Rattle.std.proofs.lemmas.Bool.{cases_Bool, and_parts}
use Rattle.std.proofs.lemmas.List.{take-map}
use Rattle.std.proofs.lemmas.List.Elements.{All-nil, All-cons, All-push, All-append, All-filter}
use Rattle.std.proofs.lemmas.Str.{IsUtf8-from_is_utf8}
use Rattle.scan_model.specs.declared.Kind.{Kind}
use Rattle.scan_model.specs.declared.Kind.TheVariants.{Ident, Number, Char, Str, Header, Punct, Stray}
use Rattle.scan_model.specs.declared.Tok.{Tok}
use Rattle.scan_model.specs.declared.Line.{Line}
use Rattle.scan_model.specs.Spelling.{is_punct, is_name, is_ident, is_number, is_char, longest, opens_raw, encoding_len, is_delimited, after_raw, is_header}
use Rattle.scan_model.specs.Spliced.{Spot, spliced, line_at}
use Rattle.scan_model.specs.Tokens.{Lexeme, bytes, cut, kind_of, is_token, is_character, rest_of_line, raw_lexeme, raw_closed, written_after, lexeme, token_at, next_token, after_blanks, wants_header, is_open, is_lone_less}
use Rattle.scan_model.specs.TokenTests.{is_of}
use Rattle.scan_model.specs.Lines.{tok, closed, lines_up_to, lines_from, lines, is_directive, kept}
use Rattle.scan_model.proofs.LongestLemmas.{longest_le}
use Rattle.scan_model.proofs.RestLemmas.{take-rest_of_line}
use Rattle.scan_model.proofs.BlankLemmas.{length-after_blanks}
use Rattle.scan_model.proofs.LineLemmas.{next_takes}
use Rattle.scan_model.specs.Utf8Names.{HasUtf8Name}
use Rattle.reducer.proofs.SpotLemmas.{length-spliced}

-- it is no identifier, or its text is well-formed
record IsGood (l : Lexeme) : Type 0 where
  utf8 : l.kind ≡ Ident → is_utf8 l.text ≡ true

ident_of : (s : List ℕ) → kind_of s ≡ Ident → is_ident s ≡ true
ident_of s e = elim (cases_Bool (is_punct s)) [
  | inl p ↦ let k : kind_of s ≡ Punct = rw p refl in cc
  | inr p ↦ elim (cases_Bool (is_ident s)) [
    | inl i ↦ i
    | inr i ↦ elim (cases_Bool (is_number s)) [
      | inl n ↦ let k : kind_of s ≡ Number = rw (p, i, n) refl in cc
      | inr n ↦ elim (cases_Bool (is_char s)) [
        | inl c ↦ let k : kind_of s ≡ Char = rw (p, i, n, c) refl in cc
        | inr c ↦ let k : kind_of s ≡ Str = rw (p, i, n, c) refl in cc
      ]
    ]
  ]
]

utf8_of_ident : (s : List ℕ) → is_ident s ≡ true → is_utf8 s ≡ true
unfolding is_ident is_name
utf8_of_ident s e = (and_parts _ _ (and_parts _ _ e).0).0

good_token : (spots : List Spot) (n : ℕ) → n ≤ length (rest_of_line (bytes spots)) → IsGood (cut (kind_of (take n (rest_of_line (bytes spots)))) n spots)
good_token spots n within =
    let same_text : bytes (take n spots) ≡ take n (rest_of_line (bytes spots)) = sym (take-map (λ (spot : Spot). spot.byte) n spots) ∙ sym (take-rest_of_line (bytes spots) n within) in
    record { utf8 = λ ident. rw same_text (utf8_of_ident (take n (rest_of_line (bytes spots))) (ident_of (take n (rest_of_line (bytes spots))) ident)) }

good_closed : (text intro written : List ℕ) (after : Option (List ℕ)) (spots : List Spot) → IsGood (raw_closed text intro written after spots)
good_closed text intro written None spots = record { utf8 = λ ident. cc }
good_closed text intro written (Some after) spots = record { utf8 = λ ident. cc }

good_if : (b : Bool) (l m : Lexeme) → IsGood l → IsGood m → IsGood (cond b l m)
good_if true l m p q = p
good_if false l m p q = q

good_cut : (kind : Kind) (n : ℕ) (spots : List Spot) → (kind ≡ Ident → ⊥) → IsGood (cut kind n spots)
good_cut kind n spots other = record { utf8 = λ ident. absurd (other ident) }

good_raw : (text : List ℕ) (spots : List Spot) → IsGood (raw_lexeme text spots)
unfolding raw_lexeme
good_raw text spots =
    let quote = encoding_len (bytes spots) + 1 in
    let written = written_after text (drop quote spots) in
    let intro = bytes (take (quote + 1) spots) in
    let line = length (rest_of_line (bytes spots)) in
    good_if (is_delimited written) (raw_closed text intro written (after_raw written) (drop (quote + 1) spots)) (cut Stray line spots)
    (good_closed text intro written (after_raw written) (drop (quote + 1) spots)) (good_cut Stray line spots (λ e. cc))

good_lexeme : (text : List ℕ) (before : List Tok) (spots : List Spot) → IsGood (lexeme text before spots)
unfolding lexeme
good_lexeme text before spots =
    let s = rest_of_line (bytes spots) in
    let header = longest is_header s in
    let n = longest is_token s in
    let character = longest is_character s in
    let stray = cut Stray (if nat_lt 0 character then character else 1) spots in
    let token = cut (kind_of (take n s)) n spots in
    let or_stray = good_if (nat_lt 0 n) token stray (good_token spots n (longest_le is_token s)) (good_cut Stray (if nat_lt 0 character then character else 1) spots (λ e. cc)) in
    let or_less = good_if (is_lone_less s) (cut Punct 1 spots) (cond (nat_lt 0 n) token stray) (good_cut Punct 1 spots (λ e. cc)) or_stray in
    let or_open = good_if (is_open s) (cut Stray (length s) spots) (cond (is_lone_less s) (cut Punct 1 spots) (cond (nat_lt 0 n) token stray)) (good_cut Stray (length s) spots (λ e. cc)) or_less in
    let or_raw = good_if (opens_raw s) (raw_lexeme text spots) (cond (is_open s) (cut Stray (length s) spots) (cond (is_lone_less s) (cut Punct 1 spots) (cond (nat_lt 0 n) token stray))) (good_raw text spots) or_open in
    good_if (wants_header before && nat_lt 0 header) (cut Header header spots) (cond (opens_raw s) (raw_lexeme text spots) (cond (is_open s) (cut Stray (length s) spots) (cond (is_lone_less s) (cut Punct 1 spots) (cond (nat_lt 0 n) token stray)))) (good_cut Header header spots (λ e. cc)) or_raw

good_at : (text : List ℕ) (before : List Tok) (spots : List Spot) (l : Lexeme) → token_at text before spots ≡ Some l → IsGood l
good_at text before [] l e = cc
good_at text before (spot ∷ spots) l e = elim (cases_Bool (spot.byte == 10)) [
  | inl lf ↦ let none : token_at text before (spot ∷ spots) ≡ None = rw lf refl in cc
  | inr other ↦
      let some : token_at text before (spot ∷ spots) ≡ Some (lexeme text before (spot ∷ spots)) = rw other refl in
      let same_lexeme : lexeme text before (spot ∷ spots) ≡ l = cc in
      subst IsGood same_lexeme (good_lexeme text before (spot ∷ spots))
]

good_next : (text : List ℕ) (before : List Tok) (spots : List Spot) (l : Lexeme) → next_token text before spots ≡ Some l → IsGood l
unfolding next_token
good_next text before spots l e = good_at text before (after_blanks spots) l e

kind_is : (k : Kind) (t : Tok) → t.kind ≡ k → IsTrue (is_of Ident t) → k ≡ Ident
kind_is Ident t e h = refl
kind_is Number t e h = cc (rw e at h)
kind_is Char t e h = cc (rw e at h)
kind_is Str t e h = cc (rw e at h)
kind_is Header t e h = cc (rw e at h)
kind_is Punct t e h = cc (rw e at h)
kind_is Stray t e h = cc (rw e at h)
kind_is _ t e h = cc (rw e at h)

readable_tok : (text : List ℕ) (before : List Tok) (spots : List Spot) (l : Lexeme) → IsGood l → HasUtf8Name (tok text before spots l)
unfolding tok
readable_tok text before spots l good ident = IsUtf8-from_is_utf8 l.text (good.utf8 (kind_is l.kind (tok text before spots l) refl ident))

abbrev HaveUtf8Lines : List Line → Type 0
HaveUtf8Lines ls = All (λ line. All HasUtf8Name line.toks) ls

readable_closed : (ts : List Tok) (last : ℕ) → All HasUtf8Name ts → HaveUtf8Lines (closed ts last)
readable_closed [] last r = All-nil _
readable_closed (t ∷ ts) last r = All-cons (λ (line : Line). All HasUtf8Name line.toks) _ [] r (All-nil _)

readable_next : (text : List ℕ) (before : List Tok) (spots : List Spot) (found : Option Lexeme) (further : Lexeme → List Line) (later : List Line) → next_token text before spots ≡ found → ((l : Lexeme) → HasUtf8Name (tok text before spots l) → HaveUtf8Lines (further l)) → HaveUtf8Lines later → HaveUtf8Lines (option_map_or further found later)
readable_next text before spots None further later e token newline = newline
readable_next text before spots (Some l) further later e token newline = token l (readable_tok text before spots l (good_next text before spots l e))

readable_up_to : (n : ℕ) (text : List ℕ) (before : List Tok) (spots : List Spot) → All HasUtf8Name before → HaveUtf8Lines (lines_up_to n text before spots)
readable_up_to zero text before spots r = readable_closed before (line_at text spots) r
readable_up_to (suc n) text before spots r =
    readable_next text before spots (next_token text before spots) (λ l. lines_up_to n text (before ++ tok text before spots l ∷ []) l.left)
    (closed before (line_at text (after_blanks spots)) ++ lines_up_to n text [] (drop 1 (after_blanks spots))) refl
    (λ l readable. readable_up_to n text (before ++ tok text before spots l ∷ []) l.left (All-push HasUtf8Name before (tok text before spots l) r readable))
    (All-append (λ (line : Line). All HasUtf8Name line.toks) _ _ (readable_closed before (line_at text (after_blanks spots)) r) (readable_up_to n text [] (drop 1 (after_blanks spots)) (All-nil _)))

readable_lines : (text : List ℕ) → HaveUtf8Lines (lines text)
unfolding lines lines_from
readable_lines text = readable_up_to (length (spliced text)) text [] (spliced text) (All-nil _)

pub readable_kept : (text : List ℕ) → All (λ (line : Line). All HasUtf8Name line.toks) (kept text)
unfolding kept
readable_kept text = All-filter is_directive (λ (line : Line). All HasUtf8Name line.toks) (lines text) (readable_lines text)

-- ## How many tokens a line has

abbrev AreShort : ℕ → List Line → Type 0
AreShort most ls = All (λ (line : Line). length line.toks ≤ most) ls

short_closed : (most : ℕ) (ts : List Tok) (last : ℕ) → length ts ≤ most → AreShort most (closed ts last)
short_closed most [] last h = All-nil _
short_closed most (t ∷ ts) last h = All-cons (λ (line : Line). length line.toks ≤ most) _ [] h (All-nil _)

short_next : (most : ℕ) (text : List ℕ) (before : List Tok) (spots : List Spot) (found : Option Lexeme) (further : Lexeme → List Line) (later : List Line) → next_token text before spots ≡ found → ((l : Lexeme) → length l.left < length spots → AreShort most (further l)) → AreShort most later → AreShort most (option_map_or further found later)
short_next most text before spots None further later e token newline = newline
short_next most text before spots (Some l) further later e token newline = token l (next_takes text before spots l e)

short_up_to : (n most : ℕ) (text : List ℕ) (before : List Tok) (spots : List Spot) → length before + length spots ≤ most → AreShort most (lines_up_to n text before spots)
short_up_to zero most text before spots h = short_closed most before (line_at text spots) (omega arith)
short_up_to (suc n) most text before spots h =
    let fewer = length-after_blanks spots in
    short_next most text before spots (next_token text before spots) (λ l. lines_up_to n text (before ++ tok text before spots l ∷ []) l.left)
    (closed before (line_at text (after_blanks spots)) ++ lines_up_to n text [] (drop 1 (after_blanks spots))) refl
    (λ l less. short_up_to n most text (before ++ tok text before spots l ∷ []) l.left (omega (arith, length-append before (tok text before spots l ∷ []))))
    (All-append (λ (line : Line). length line.toks ≤ most) _ _ (short_closed most before (line_at text (after_blanks spots)) (omega arith))
    (short_up_to n most text [] (drop 1 (after_blanks spots)) (omega (arith, length-drop 1 (after_blanks spots)))))

pub short_kept : (text : List ℕ) → length text ≤ 33554432 → AreShort 33554433 (kept text)
unfolding kept lines lines_from
short_kept text h =
    let few = length-spliced text in
    All-filter is_directive (λ (line : Line). length line.toks ≤ 33554433) (lines text) (short_up_to (length (spliced text)) 33554433 text [] (spliced text) (omega (arith, few)))
