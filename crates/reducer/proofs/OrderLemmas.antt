-- The numbers of a text's lines.
use Rattle.std.proofs.Common.{◌≡◌, ℕ, zero, suc, ◌+◌, ◌<◌, ◌≤◌, Bool, List, [], ◌∷◌, ◌++◌, All, refl, sym, subst, drop, length, arith, Option, Some, None}
use Rattle.std.proofs.lemmas.Bool.{cond_both}
use Rattle.std.specs.Option.{option_map_or}
use Rattle.std.specs.List.{filter}
use Rattle.std.proofs.lemmas.List.Elements.{All-nil, All-head, All-drop}
use Rattle.scan_model.specs.declared.token.Tok.{Tok}
use Rattle.scan_model.specs.declared.token.Line.{Line}
use Rattle.scan_model.specs.Spliced.{Spot, line_at, spliced}
use Rattle.scan_model.specs.Tokens.{Lexeme, after_blanks, next_token}
use Rattle.scan_model.specs.Lines.{tok, closed, lines_up_to, lines_from, lines, is_directive, kept}
use Rattle.scan_model.proofs.BlankLemmas.{EndOf, end_after_blanks}
use Rattle.pp_lexer.proofs.LeftLemmas.{next_end, next_end_whole, next_some, EndsLine, next_ends_line}
use Rattle.reducer.specs.ReducedLines.{AreOrdered}
use Rattle.reducer.proofs.SpotLemmas.{Fits, Fits-drop, spliced_fits, spliced_from_one, last_line-spliced}

-- ## The line of what is left

line_at-least : (text : List ℕ) (from : ℕ) (s : List Spot) → 0 < length s → All (λ (y : Spot). from ≤ y.line) s → from ≤ line_at text s
line_at-least text from [] some all = absurd (omega arith)
line_at-least text from (x ∷ s) some all = All-head (λ (y : Spot). from ≤ y.line) x s all

line_at-most : (text : List ℕ) (s : List Spot) → Fits (line_at text []) s → line_at text s ≤ line_at text []
line_at-most text [] h = omega arith
line_at-most text (x ∷ s) h = All-head (λ (y : Spot). y.line ≤ line_at text []) x s h.below

-- of what comes later, at least that of what comes first
later : (text : List ℕ) (n : ℕ) (s : List Spot) → Fits (line_at text []) s → line_at text s ≤ line_at text (drop n s)
later text zero s h = omega arith
later text (suc n) [] h = omega arith
later text (suc n) (x ∷ s) h = at (drop n s) (All-drop (λ (y : Spot). x.line ≤ y.line) n s h.rises.0) where
  at : (t : List Spot) → All (λ (y : Spot). x.line ≤ y.line) t → x.line ≤ line_at text t
  at [] all = All-head (λ (y : Spot). y.line ≤ line_at text []) x s h.below
  at (y ∷ t) all = All-head (λ (y : Spot). x.line ≤ y.line) y t all

later_end : (text : List ℕ) (s t : List Spot) → EndOf s t → Fits (line_at text []) s → line_at text s ≤ line_at text t
later_end text s t e h = subst (λ t. line_at text s ≤ line_at text t) (sym e.1) (later text e.0 s h)

Fits-end : (last : ℕ) (s t : List Spot) → EndOf s t → Fits last s → Fits last t
Fits-end last s t e h = subst (Fits last) (sym e.1) (Fits-drop last e.0 s h)

at_least-end : (from : ℕ) (s t : List Spot) → EndOf s t → All (λ (y : Spot). from ≤ y.line) s → All (λ (y : Spot). from ≤ y.line) t
at_least-end from s t e h = subst (All (λ (y : Spot). from ≤ y.line)) (sym e.1) (All-drop (λ (y : Spot). from ≤ y.line) e.0 s h)

-- ## The tokens so far

-- they begin at the line `from` or later, and no later than what is left; where there are none, what is left does
abbrev Opens : ℕ → List Tok → List ℕ → List Spot → Type 0
Opens from [] text s = All (λ (y : Spot). from ≤ y.line) s
Opens from (t ∷ ts) text s = (from ≤ t.line) × (t.line ≤ line_at text s)

opens_more : (from : ℕ) (text : List ℕ) (before : List Tok) (s : List Spot) (l : Lexeme) → next_token text before s ≡ Some l → Fits (line_at text []) s → Opens from before text s
    → Opens from (before ++ tok text before s l ∷ []) text l.left
unfolding tok
opens_more from text [] s l e fits o = let blanks = end_after_blanks s in (
  line_at-least text from (after_blanks s) (next_some text [] s l e) (at_least-end from s (after_blanks s) blanks o),
  later_end text (after_blanks s) l.left (next_end text [] s l e) (Fits-end (line_at text []) s (after_blanks s) blanks fits),
)
opens_more from text (t ∷ ts) s l e fits o =
    let far : line_at text s ≤ line_at text l.left = later_end text s l.left (next_end_whole text (t ∷ ts) s l e) fits in (o.0, omega (arith, o.1))

-- after a newline the next line begins further down
opens_below : (text : List ℕ) (at : List Spot) → EndsLine at → Fits (line_at text []) at → All (λ (y : Spot). line_at text at + 1 ≤ y.line) (drop 1 at)
opens_below text [] e fits = All-nil _
opens_below text (x ∷ s) e fits = fits.rises.1 e

ordered_from : (from more : ℕ) (lines : List Line) → from ≤ more → AreOrdered more lines → AreOrdered from lines
ordered_from from more [] h o = tt
ordered_from from more (l ∷ ls) h o = (omega (arith, o.0), o.1, o.2, o.3)

-- ## The lines

ordered_close : (from : ℕ) (text : List ℕ) (before : List Tok) (s : List Spot) (further : List Line) → line_at text [] ≤ 33554433 → Fits (line_at text []) s → Opens from before text s
    → (at : List Spot) → EndOf s at → (All (λ (y : Spot). from ≤ y.line) (drop 1 at) → AreOrdered from further) → AreOrdered (line_at text at + 1) further
    → AreOrdered from (closed before (line_at text at) ++ further)
ordered_close from text [] s further small fits o at e same more = same (All-drop (λ (y : Spot). from ≤ y.line) 1 at (at_least-end from s at e o))
ordered_close from text (t ∷ ts) s further small fits o at e same more =
    let low : line_at text s ≤ line_at text at = later_end text s at e fits in
    let high : line_at text at ≤ line_at text [] = line_at-most text at (Fits-end (line_at text []) s at e fits) in
    (o.0, omega (arith, o.1), omega arith, more)

ordered_next : (from : ℕ) (text : List ℕ) (before : List Tok) (s : List Spot) (found : Option Lexeme) (further : Lexeme → List Line) (later : List Line) → next_token text before s ≡ found
    → ((l : Lexeme) → next_token text before s ≡ Some l → AreOrdered from (further l)) → (next_token text before s ≡ None → AreOrdered from later) → AreOrdered from (option_map_or further found later)
ordered_next from text before s None further later e token newline = newline e
ordered_next from text before s (Some l) further later e token newline = token l e

ordered_up_to : (n from : ℕ) (text : List ℕ) (before : List Tok) (s : List Spot) → line_at text [] ≤ 33554433 → Fits (line_at text []) s → Opens from before text s
    → AreOrdered from (lines_up_to n text before s)
ordered_up_to zero from text [] s small fits o = tt
ordered_up_to zero from text (t ∷ ts) s small fits o = let high = line_at-most text s fits in (o.0, omega (arith, o.1), omega (arith, high), tt)
ordered_up_to (suc n) from text before s small fits o =
    let at = after_blanks s in
    let blanks = end_after_blanks s in
    let there : Fits (line_at text []) at = Fits-end (line_at text []) s at blanks fits in
    let below : Fits (line_at text []) (drop 1 at) = Fits-drop (line_at text []) 1 at there in
    ordered_next from text before s (next_token text before s) (λ l. lines_up_to n text (before ++ tok text before s l ∷ []) l.left) (closed before (line_at text at) ++ lines_up_to n text [] (drop 1 at)) refl
    (λ l e. ordered_up_to n from text (before ++ tok text before s l ∷ []) l.left small (Fits-end (line_at text []) s l.left (next_end_whole text before s l e) fits) (opens_more from text before s l e fits o))
    (λ e. ordered_close from text before s (lines_up_to n text [] (drop 1 at)) small fits o at blanks (λ o'. ordered_up_to n from text [] (drop 1 at) small below o')
    (ordered_up_to n (line_at text at + 1) text [] (drop 1 at) small below (opens_below text at (next_ends_line text before s e) there)))

ordered-filter : (from : ℕ) (p : Line → Bool) (lines : List Line) → AreOrdered from lines → AreOrdered from (filter p lines)
ordered-filter from p [] o = tt
ordered-filter from p (l ∷ ls) o =
    let more = ordered-filter l.next p ls o.3 in
    cond_both (p l) (l ∷ filter p ls) (filter p ls) (AreOrdered from) (λ e. (o.0, o.1, o.2, more)) (λ e. ordered_from from l.next (filter p ls) (omega (arith, o.0, o.1)) more)

pub ordered_kept : (text : List ℕ) → length text ≤ 33554432 → AreOrdered 1 (kept text)
unfolding kept lines lines_from
ordered_kept text h =
    let few = last_line-spliced text in
    ordered-filter 1 is_directive (lines text) (ordered_up_to (length (spliced text)) 1 text [] (spliced text) (omega (arith, few)) (spliced_fits text) (spliced_from_one text))
