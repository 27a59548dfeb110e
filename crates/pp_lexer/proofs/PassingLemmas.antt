-- A token that is passed, on a line where no header name is tried.
use Rattle.std.proofs.Common.{◌≡◌, ℕ, suc, arith, true, false, ◌==◌, List, [], ◌∷◌, refl, sym, inl, inr, ◌∙◌, nat_lt, length}
use Rattle.std.proofs.lemmas.Bool.{ltb-true, lt-ltb, eqb-true, true≢false, cases_Bool}
use Rattle.lexeme_reader.specs.Fronts.{line}
use Rattle.scan_model.specs.declared.token.Tok.{Tok}
use Rattle.scan_model.specs.Spliced.{Spot}
use Rattle.scan_model.proofs.BlankLemmas.{after_blanks-none}
use Rattle.scan_model.specs.Tokens.{Lexeme, bytes, next_blank, rest_of_line, after_blanks, wants_header, lexeme}
use Rattle.pp_lexer.specs.Reads.{PassesToken, NoHeader}
use Rattle.pp_lexer.proofs.TokenLemmas.{token_some, token_none}

pub wants_header-nil : wants_header [] ≡ false
unfolding wants_header
wants_header-nil = refl

pub no_header : (s : List Spot) → NoHeader [] s
unfolding wants_header
no_header s = refl

-- the tokens before matter for a header name alone
same_lexeme : (text : List ℕ) (before : List Tok) (s : List Spot) → wants_header before ≡ false → lexeme text before s ≡ lexeme text [] s
unfolding lexeme
same_lexeme text before s h = rw (h, wants_header-nil) refl

pub passes_none : (text : List ℕ) (s at : List Spot) → at ≡ after_blanks s → nat_lt 0 (length (line at)) ≡ false → PassesToken text s false at
passes_none text s at blanks none = (λ before. token_none text before s at blanks none, blanks)

pub passes_some : (text : List ℕ) (s at left : List Spot) (l : Lexeme) → at ≡ after_blanks s → nat_lt 0 (length (line at)) ≡ true → lexeme text [] at ≡ l → left ≡ l.left → PassesToken text s true left
passes_some text s at left l blanks some is rest =
    (l, λ before h. token_some text before s at l blanks (ltb-true 0 (length (line at)) some) (same_lexeme text before at h ∙ is), rest)

-- at the end of a line nothing is passed
blanks_at_end : (s : List Spot) → nat_lt 0 (length (line s)) ≡ false → s ≡ after_blanks s
unfolding next_blank rest_of_line
blanks_at_end [] h = sym (after_blanks-none [] refl)
blanks_at_end (x ∷ s) h = elim (cases_Bool (x.byte == 10)) [
  | inl newline ↦ let is : x.byte ≡ 10 = eqb-true x.byte 10 newline in sym (after_blanks-none (x ∷ s) (rw is refl))
  | inr other ↦ absurd (true≢false (sym (some x s other) ∙ h))
]
  where
    some : (x : Spot) (s : List Spot) → (x.byte == 10) ≡ false → nat_lt 0 (length (line (x ∷ s))) ≡ true
    some x s other = rw other (lt-ltb 0 (suc (length (rest_of_line (bytes s)))) (omega arith))

pub passes_end : (text : List ℕ) (s : List Spot) → nat_lt 0 (length (line s)) ≡ false → PassesToken text s false s
passes_end text s none = passes_none text s s (blanks_at_end s none) none
