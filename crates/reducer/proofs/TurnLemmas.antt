-- One turn of the loops over a text and over a line that may be kept.
use Rattle.std.proofs.Common.{◌≡◌, ℕ, ◌<◌, ◌≤◌, Bool, true, List, [], ◌∷◌, ◌++◌, refl, ap, sym, ◌∙◌, subst, inl, append-nil, drop, length, Some, None}
use Rattle.std.proofs.lemmas.List.{append_assoc}
use Rattle.std.specs.List.{filter}
use Rattle.scan_model.specs.declared.token.Tok.{Tok}
use Rattle.scan_model.specs.declared.token.Line.{Line}
use Rattle.scan_model.specs.Spliced.{Spot, byte_at, line_at, spliced}
use Rattle.scan_model.specs.Lines.{closed, is_directive, kept}
use Rattle.reducer.specs.ReducedLines.{AreReduced}
use Rattle.reducer.specs.Directives.{is_text, kept_from, IsPassed}
use Rattle.pp_lexer.specs.Reads.{GivesToken}
use Rattle.pp_lexer.proofs.LinesLemmas.{token_smaller}
use Rattle.reducer.specs.declared.open_lines.OpenLines.{OpenLines}
use Rattle.reducer.specs.Building.{open_toks}
use Rattle.reducer.specs.ReadToken.{ReadsToken}
use Rattle.reducer.proofs.KeptLemmas.{kept_from-token, kept_from-newline, kept_from-empty, kept_from-end, kept_from-start, reduced_kept}

-- after a token
token_turn : (text : List ℕ) (before toks : List Tok) (s left : List Spot) (t : Tok) → GivesToken text before s (Some t) left → toks ≡ before ++ t ∷ [] → kept_from text before s ≡ kept_from text toks left
token_turn text before toks s left t h push =
    kept_from-token text before s h.0 h.1 ∙ ap (λ u. kept_from text (before ++ u ∷ []) h.0.left) (sym h.2) ∙ ap (λ u. kept_from text u h.0.left) (sym push) ∙ ap (kept_from text toks) (sym h.3)

-- the clause of `read_token`, by what its answer was found to be
pub as_read : (text : List ℕ) (b after : OpenLines) (s left : List Spot) (read read' : Bool) → ReadsToken text b s read after left → read ≡ read' → ReadsToken text b s read' after left
as_read text b after s left read read' h e = subst (λ r. ReadsToken text b s r after left) e h

pub read_smaller : (text : List ℕ) (b after : OpenLines) (s left : List Spot) → ReadsToken text b s true after left → length left < length s
read_smaller text b after s left h = token_smaller text (open_toks b) s left h.0 h.1

pub read_turn : (text : List ℕ) (b after : OpenLines) (s left : List Spot) → ReadsToken text b s true after left → kept_from text (open_toks b) s ≡ kept_from text (open_toks after) left
read_turn text b after s left h = token_turn text (open_toks b) (open_toks after) s left h.0 h.1 h.2.added

-- after the last one
pub line_turn : (text : List ℕ) (lines more : List Line) (before : List Tok) (start s left at : List Spot) (last : ℕ) → kept_from text [] start ≡ kept_from text before s → GivesToken text before s None left
    → last ≡ line_at text left → more ≡ lines ++ filter is_directive (closed before last) → at ≡ drop 1 left → more ++ kept_from text [] at ≡ lines ++ kept_from text [] start
line_turn text lines more before start s left at last so_far h line_is add next =
    let line = filter is_directive (closed before (line_at text left)) in
    let here : kept_from text before s ≡ line ++ kept_from text [] (drop 1 left) =
    subst (λ u. kept_from text before s ≡ filter is_directive (closed before (line_at text u)) ++ kept_from text [] (drop 1 u)) (sym h.1) (kept_from-newline text before s h.0) in
    ap (λ u. u ++ kept_from text [] at) (add ∙ ap (λ n. lines ++ filter is_directive (closed before n)) line_is) ∙ ap (λ u. (lines ++ line) ++ kept_from text [] u) next
    ∙ append_assoc lines line (kept_from text [] (drop 1 left)) ∙ ap (λ u. lines ++ u) (sym here) ∙ ap (λ u. lines ++ u) (sym so_far)

-- after a line that is dropped
pub dropped_turn : (text text' : List ℕ) (lines : List Line) (toks : List Tok) (start left at : List Spot) → text' ≡ text → kept_from text [] start ≡ kept_from text toks left → IsPassed text' left at
    → is_text toks ≡ true → lines ++ kept_from text [] at ≡ lines ++ kept_from text [] start
dropped_turn text text' lines toks start left at same so_far passed is =
    let passed' = subst (λ t. IsPassed t left at) same passed toks (inl is) in
    ap (λ u. lines ++ u) (sym passed' ∙ sym so_far)

pub whole_start : (text : List ℕ) (lines : List Line) (s : List Spot) → lines ≡ [] → s ≡ spliced text → lines ++ kept_from text [] s ≡ kept text
whole_start text lines s none start = ap (λ u. u ++ kept_from text [] s) none ∙ ap (kept_from text []) start ∙ kept_from-start text

-- after an empty line
pub empty_turn : (text : List ℕ) (lines : List Line) (s at : List Spot) → byte_at s ≡ Some 10 → at ≡ drop 1 s → lines ++ kept_from text [] at ≡ lines ++ kept_from text [] s
empty_turn text lines s at here next = ap (λ u. lines ++ u) (ap (kept_from text []) next ∙ sym (kept_from-empty text s here))

pub at_end : (s : List Spot) → byte_at s ≡ None → s ≡ []
at_end [] h = refl
at_end (x ∷ s) h = cc

pub whole_end : (text : List ℕ) (lines : List Line) (s : List Spot) → lines ++ kept_from text [] s ≡ kept text → s ≡ [] → lines ≡ kept text
whole_end text lines s whole none = sym (append-nil lines) ∙ ap (λ u. lines ++ u) (sym (ap (kept_from text []) none ∙ kept_from-end text)) ∙ whole

pub whole_reduced : (text : List ℕ) (lines : List Line) → length text ≤ 33554432 → lines ≡ kept text → AreReduced lines
whole_reduced text lines small e = subst AreReduced (sym e) (reduced_kept text small)
