-- Runs of tokens that are passed in a line that is no directive.
use Rattle.std.proofs.Common.{◌≡◌, ℕ, zero, suc, ◌≤◌, true, false, List, [], ◌∷◌, ◌++◌, refl, ap, sym, ◌∙◌, subst, inl, inr, drop, length, length-drop, arith, Option, Some, None}
use Rattle.scan_model.specs.declared.token.Tok.{Tok}
use Rattle.scan_model.specs.Spliced.{Spot}
use Rattle.scan_model.specs.Tokens.{Lexeme, after_blanks, next_blank, wants_header, lexeme, token_at, next_token}
use Rattle.scan_model.specs.Lines.{tok}
use Rattle.scan_model.proofs.BlankLemmas.{after_blanks-some, length-next_blank, length-after_blanks}
use Rattle.scan_model.proofs.LineLemmas.{next_takes}
use Rattle.calm_runs.specs.Runs.{PassesOne, PassesCount, PassesRun}
use Rattle.reducer.specs.Directives.{is_text, kept_from}
use Rattle.reducer.proofs.TextLemmas.{is_text-append, wants_header-text}
use Rattle.reducer.proofs.KeptLemmas.{kept_from-token, text_newline}
use Rattle.reducer.proofs.PassLemmas.{StaysText, then_stays, token_stays}

-- ## The tokens before

same_lexeme : (text : List ℕ) (a b : List Tok) (s : List Spot) → wants_header a ≡ false → wants_header b ≡ false → lexeme text a s ≡ lexeme text b s
unfolding lexeme
same_lexeme text a b s p q = rw (p, q) refl

same_at : (text : List ℕ) (a b : List Tok) (s : List Spot) → wants_header a ≡ false → wants_header b ≡ false → token_at text a s ≡ token_at text b s
same_at text a b [] p q = refl
same_at text a b (x ∷ s) p q = rw (same_lexeme text a b (x ∷ s) p q) refl

same_next : (text : List ℕ) (a b : List Tok) (s : List Spot) → is_text a ≡ true → is_text b ≡ true → next_token text a s ≡ next_token text b s
unfolding next_token
same_next text a b s p q = same_at text a b (after_blanks s) (wants_header-text a p) (wants_header-text b q)

step_before : (text : List ℕ) (a b : List Tok) (s : List Spot) (o : Option Lexeme) → next_token text a s ≡ o → is_text a ≡ true → is_text b ≡ true
    → ((l : Lexeme) → next_token text a s ≡ Some l → (a' b' : List Tok) → is_text a' ≡ true → is_text b' ≡ true → kept_from text a' l.left ≡ kept_from text b' l.left) → kept_from text a s ≡ kept_from text b s
step_before text a b s None e p q more = text_newline text a s p e ∙ sym (text_newline text b s q (sym (same_next text a b s p q) ∙ e))
step_before text a b s (Some l) e p q more =
    kept_from-token text a s l e
    ∙ more l e (a ++ tok text a s l ∷ []) (b ++ tok text b s l ∷ []) (is_text-append a (tok text a s l ∷ []) p) (is_text-append b (tok text b s l ∷ []) q)
    ∙ sym (kept_from-token text b s l (sym (same_next text a b s p q) ∙ e))

-- tokens that make no directive tell nothing of the lines that are kept
before_up_to : (k : ℕ) (text : List ℕ) (a b : List Tok) (s : List Spot) → length s ≤ k → is_text a ≡ true → is_text b ≡ true → kept_from text a s ≡ kept_from text b s
before_up_to zero text a b s le p q = step_before text a b s (next_token text a s) refl p q (λ l e a' b' p' q'. absurd (let z = next_takes text a s l e in omega arith))
before_up_to (suc k) text a b s le p q =
    step_before text a b s (next_token text a s) refl p q (λ l e a' b' p' q'. let z = next_takes text a s l e in before_up_to k text a' b' l.left (omega arith) p' q')

whatever_before : (text : List ℕ) (a b : List Tok) (s : List Spot) → is_text a ≡ true → is_text b ≡ true → kept_from text a s ≡ kept_from text b s
whatever_before text a b s p q = before_up_to (length s) text a b s (omega arith) p q

-- ## A blank

blank_next : (text : List ℕ) (before : List Tok) (s mid : List Spot) → next_blank s ≡ Some mid → next_token text before mid ≡ next_token text before s
unfolding next_token
blank_next text before s mid e = ap (token_at text before) (sym (after_blanks-some s mid e))

blank_found : (text : List ℕ) (before : List Tok) (s mid : List Spot) (o : Option Lexeme) → is_text before ≡ true → next_blank s ≡ Some mid → next_token text before s ≡ o → kept_from text before s ≡ kept_from text before mid
blank_found text before s mid None is e f =
    text_newline text before s is f ∙ ap (λ at. kept_from text [] (drop 1 at)) (after_blanks-some s mid e) ∙ sym (text_newline text before mid is (blank_next text before s mid e ∙ f))
blank_found text before s mid (Some l) is e f =
    kept_from-token text before s l f
    ∙ whatever_before text (before ++ tok text before s l ∷ []) (before ++ tok text before mid l ∷ []) l.left (is_text-append before (tok text before s l ∷ []) is) (is_text-append before (tok text before mid l ∷ []) is)
    ∙ sym (kept_from-token text before mid l (blank_next text before s mid e ∙ f))

-- ## A run

one_stays : (text : List ℕ) (s mid : List Spot) → PassesOne text s mid → StaysText text s mid
one_stays text s mid (inl blank) before (inl is) = (before, inl is, blank_found text before s mid (next_token text before s) is blank refl)
one_stays text s mid (inl blank) before (inr front) =
    let whole : length (after_blanks s) ≡ length s = ap length front.2 in
    let less : length (after_blanks s) ≡ length (after_blanks mid) = ap length (after_blanks-some s mid blank) in
    absurd (omega (arith, whole, less, length-next_blank s mid blank, length-after_blanks mid))
one_stays text s mid (inr token) before is = subst (StaysText text s) (sym token.2) (token_stays text s token.0 token.1) before is

count_stays : (text : List ℕ) (n : ℕ) (s left : List Spot) → PassesCount text n s left → StaysText text s left
count_stays text zero s left e before is = subst (StaysText text s) (sym e) (λ b h. (b, h, refl)) before is
count_stays text (suc n) s left h before is = then_stays text s h.0 left (one_stays text s h.0 h.1) (count_stays text n h.0 left h.2) before is

pub run_stays : (text text' : List ℕ) (s left : List Spot) → text' ≡ text → PassesRun text' s left → StaysText text s left
run_stays text text' s left same h = count_stays text h.0 s left (subst (λ t. PassesCount t h.0 s left) same h.1)

-- then as much is left, or less
pub run_less : (s left : List Spot) (n : ℕ) → left ≡ drop n s → length left ≤ length s
run_less s left n e = let k : length left ≡ length (drop n s) = ap length e in omega (arith, k, length-drop n s)
