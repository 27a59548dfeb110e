-- What is left of a text, by one token or one line.
use Rattle.std.proofs.Common.{◌≡◌, ℕ, ◌≤◌, true, false, List, [], ◌∷◌, ◌++◌, refl, ap, sym, ◌∙◌, drop, length, Option, Some, None}
use Rattle.std.specs.List.{filter}
use Rattle.std.proofs.lemmas.List.Elements.{filter-append}
use Rattle.scan_model.specs.declared.token.Tok.{Tok}
use Rattle.scan_model.specs.Spliced.{Spot, byte_at, line_at, spliced}
use Rattle.scan_model.specs.Tokens.{Lexeme, next_blank, after_blanks, token_at, next_token}
use Rattle.scan_model.specs.Lines.{tok, closed, lines, lines_from, begins_directive, is_directive, kept}
use Rattle.scan_model.proofs.BlankLemmas.{after_blanks-none, after_blanks-stops}
use Rattle.scan_model.proofs.LineLemmas.{lines_from-token, lines_from-newline, lines_from-end}
use Rattle.reducer.specs.Directives.{is_text, kept_from}
use Rattle.reducer.specs.ReducedLines.{AreReduced}
use Rattle.reducer.proofs.TextLemmas.{begins_directive-text, is_text-append}
use Rattle.reducer.proofs.OrderLemmas.{ordered_kept}
use Rattle.reducer.proofs.TokenLemmas.{readable_kept, short_kept}

-- ## One step

pub kept_from-token : (text : List ℕ) (before : List Tok) (s : List Spot) (l : Lexeme) → next_token text before s ≡ Some l
    → kept_from text before s ≡ kept_from text (before ++ tok text before s l ∷ []) l.left
kept_from-token text before s l e = ap (filter is_directive) (lines_from-token text before s l e)

pub kept_from-newline : (text : List ℕ) (before : List Tok) (s : List Spot) → next_token text before s ≡ None
    → kept_from text before s ≡ filter is_directive (closed before (line_at text (after_blanks s))) ++ kept_from text [] (drop 1 (after_blanks s))
kept_from-newline text before s e =
    ap (filter is_directive) (lines_from-newline text before s e) ∙ filter-append is_directive (closed before (line_at text (after_blanks s))) (lines_from text [] (drop 1 (after_blanks s)))

pub kept_from-end : (text : List ℕ) → kept_from text [] [] ≡ []
kept_from-end text = ap (filter is_directive) (lines_from-end text [])

pub kept_from-start : (text : List ℕ) → kept_from text [] (spliced text) ≡ kept text
unfolding kept lines
kept_from-start text = refl

-- ## A line that is dropped

pub dropped : (before : List Tok) (last : ℕ) → begins_directive before ≡ false → filter is_directive (closed before last) ≡ []
unfolding is_directive
dropped [] last h = refl
dropped (t ∷ ts) last h = rw h refl

pub kept_closed : (before : List Tok) (last : ℕ) → begins_directive before ≡ true → filter is_directive (closed before last) ≡ closed before last
unfolding is_directive
kept_closed [] last h = refl
kept_closed (t ∷ ts) last h = rw h refl

pub text_token : (text : List ℕ) (before : List Tok) (s : List Spot) (l : Lexeme) → is_text before ≡ true → next_token text before s ≡ Some l
    → (b : List Tok) × (is_text b ≡ true) × (kept_from text before s ≡ kept_from text b l.left)
text_token text before s l h e = (before ++ tok text before s l ∷ [], is_text-append before (tok text before s l ∷ []) h, kept_from-token text before s l e)

pub text_newline : (text : List ℕ) (before : List Tok) (s : List Spot) → is_text before ≡ true → next_token text before s ≡ None → kept_from text before s ≡ kept_from text [] (drop 1 (after_blanks s))
text_newline text before s h e =
    kept_from-newline text before s e ∙ ap (λ ls. ls ++ kept_from text [] (drop 1 (after_blanks s))) (dropped before (line_at text (after_blanks s)) (begins_directive-text before h))

-- ## Blanks before a line

pub after_blanks-twice : (s : List Spot) → after_blanks (after_blanks s) ≡ after_blanks s
after_blanks-twice s = after_blanks-none (after_blanks s) (after_blanks-stops s)

pub same_token : (text : List ℕ) (before : List Tok) (s : List Spot) → next_token text before (after_blanks s) ≡ next_token text before s
unfolding next_token
same_token text before s = ap (token_at text before) (after_blanks-twice s)

same_tok : (text : List ℕ) (s : List Spot) (l : Lexeme) → tok text [] (after_blanks s) l ≡ tok text [] s l
unfolding tok
same_tok text s l = ap (λ at. record { kind = l.kind; text = l.text; space = true; line = line_at text at }) (after_blanks-twice s)

pub kept_from-blanks : (text : List ℕ) (s : List Spot) → kept_from text [] (after_blanks s) ≡ kept_from text [] s
kept_from-blanks text s = by (next_token text [] s) refl where
  by : (found : Option Lexeme) → next_token text [] s ≡ found → kept_from text [] (after_blanks s) ≡ kept_from text [] s
  by (Some l) e =
      kept_from-token text [] (after_blanks s) l (same_token text [] s ∙ e) ∙ ap (λ t. kept_from text (t ∷ []) l.left) (same_tok text s l) ∙ sym (kept_from-token text [] s l e)
  by None e =
      kept_from-newline text [] (after_blanks s) (same_token text [] s ∙ e) ∙ ap (λ at. kept_from text [] (drop 1 at)) (after_blanks-twice s) ∙ sym (kept_from-newline text [] s e)

-- ## An empty line

no_blank : (s : List Spot) → byte_at s ≡ Some 10 → next_blank s ≡ None
unfolding next_blank
no_blank [] h = cc
no_blank (x ∷ s) h = let newline : x.byte ≡ 10 = cc in rw newline refl

no_token : (text : List ℕ) (s : List Spot) → byte_at s ≡ Some 10 → token_at text [] s ≡ None
no_token text [] h = cc
no_token text (x ∷ s) h = let newline : x.byte ≡ 10 = cc in rw newline refl

pub kept_from-empty : (text : List ℕ) (s : List Spot) → byte_at s ≡ Some 10 → kept_from text [] s ≡ kept_from text [] (drop 1 s)
unfolding next_token
kept_from-empty text s h =
    let here = after_blanks-none s (no_blank s h) in
    kept_from-newline text [] s (ap (token_at text []) here ∙ no_token text s h) ∙ ap (λ at. kept_from text [] (drop 1 at)) here

-- ## The whole

pub reduced_kept : (text : List ℕ) → length text ≤ 33554432 → AreReduced (kept text)
reduced_kept text h = record { ordered = ordered_kept text h; utf8 = readable_kept text; short = short_kept text h }
