-- One turn of the loop over a text.
use Rattle.std.proofs.Common.{◌≡◌, ℕ, ◌-◌, ◌<◌, List, [], ◌∷◌, ◌++◌, refl, ap, sym, ◌∙◌, subst, drop, length, length-drop, arith, Option, Some, None}
use Rattle.std.proofs.lemmas.List.{append_assoc}
use Rattle.scan_model.specs.declared.token.Tok.{Tok}
use Rattle.scan_model.specs.declared.token.Line.{Line}
use Rattle.scan_model.specs.Spliced.{Spot, spliced, line_at}
use Rattle.scan_model.specs.Tokens.{after_blanks}
use Rattle.scan_model.specs.Lines.{tok, closed, lines, lines_from}
use Rattle.scan_model.proofs.BlankLemmas.{length-after_blanks}
use Rattle.scan_model.proofs.LineLemmas.{next_takes, lines_from-token, lines_from-newline, lines_from-end}
use Rattle.pp_lexer.specs.Reads.{GivesToken}

pub lines_init : (text : List ℕ) (out : List Line) (toks : List Tok) (s : List Spot) → out ≡ [] → toks ≡ [] → s ≡ spliced text → out ++ lines_from text toks s ≡ lines text
unfolding lines
lines_init text out toks s no_lines no_toks start =
    ap (λ o. o ++ lines_from text toks s) no_lines ∙ ap (λ t. lines_from text t s) no_toks ∙ ap (lines_from text []) start

-- after a token
pub token_turn : (text : List ℕ) (out : List Line) (before toks : List Tok) (s left : List Spot) (t : Tok) (all : List Line) → GivesToken text before s (Some t) left → toks ≡ before ++ t ∷ []
    → out ++ lines_from text before s ≡ all → out ++ lines_from text toks left ≡ all
token_turn text out before toks s left t all gives push h =
    ap (λ u. out ++ lines_from text u left) (push ∙ ap (λ u. before ++ u ∷ []) gives.2) ∙ ap (λ u. out ++ lines_from text (before ++ tok text before s gives.0 ∷ []) u) gives.3
    ∙ ap (λ u. out ++ u) (sym (lines_from-token text before s gives.0 gives.1)) ∙ h

pub token_smaller : (text : List ℕ) (before : List Tok) (s left : List Spot) (t : Tok) → GivesToken text before s (Some t) left → length left < length s
token_smaller text before s left t gives = let e : length left ≡ length gives.0.left = ap length gives.3 in let z = next_takes text before s gives.0 gives.1 in omega arith

-- after a newline, or the end
pub newline_turn : (text : List ℕ) (out out' : List Line) (before toks : List Tok) (s left at : List Spot) (line : ℕ) (all : List Line) → GivesToken text before s None left
    → line ≡ line_at text left → out' ≡ out ++ closed before line → toks ≡ [] → at ≡ drop 1 left
    → out ++ lines_from text before s ≡ all → out' ++ lines_from text toks at ≡ all
newline_turn text out out' before toks s left at line all gives line_is more none at_is h =
    ap (λ u. u ++ lines_from text toks at) more ∙ ap (λ u. (out ++ closed before line) ++ lines_from text u at) none ∙ ap (λ u. (out ++ closed before line) ++ lines_from text [] u) at_is
    ∙ append_assoc out (closed before line) (lines_from text [] (drop 1 left))
    ∙ ap (λ u. out ++ (closed before u ++ lines_from text [] (drop 1 left))) line_is
    ∙ ap (λ u. out ++ (closed before (line_at text u) ++ lines_from text [] (drop 1 u))) gives.1
    ∙ ap (λ u. out ++ u) (sym (lines_from-newline text before s gives.0)) ∙ h

pub newline_smaller : (text : List ℕ) (before : List Tok) (s left at : List Spot) → GivesToken text before s None left → at ≡ drop 1 left → (s ≡ [] → ⊥) → length at < length s
newline_smaller text before [] left at gives at_is some = absurd (some refl)
newline_smaller text before (x ∷ s) left at gives at_is some =
    let e : length at ≡ length left - 1 = ap length at_is ∙ length-drop 1 left in
    let f : length left ≡ length (after_blanks (x ∷ s)) = ap length gives.1 in
    let z = length-after_blanks (x ∷ s) in omega arith

pub end_turn : (text : List ℕ) (out out' : List Line) (before : List Tok) (s : List Spot) (line : ℕ) (all : List Line) → s ≡ [] → line ≡ line_at text s → out' ≡ out ++ closed before line
    → out ++ lines_from text before s ≡ all → out' ≡ all
end_turn text out out' before s line all none line_is more h =
    more ∙ ap (λ l. out ++ closed before l) (line_is ∙ ap (line_at text) none) ∙ ap (λ u. out ++ u) (sym (lines_from-end text before)) ∙ ap (λ u. out ++ lines_from text before u) (sym none) ∙ h

-- the clause of `token`, by the names of the loop
pub as_given : (text text' : List ℕ) (before before' : List Tok) (s left : List Spot) (o o' : Option Tok) → GivesToken text before s o left → text ≡ text' → before ≡ before' → o ≡ o' → GivesToken text' before' s o' left
as_given text text' before before' s left o o' h e f g =
    subst (λ o. GivesToken text' before' s o left) g (subst (λ b. GivesToken text' b s o left) f (subst (λ t. GivesToken t before s o left) e h))
