-- From the lexeme to the token.
use Rattle.std.proofs.Common.{◌≡◌, ℕ, suc, ◌<◌, Bool, true, false, ◌==◌, ◌||◌, not, nat_lt, inl, inr, List, [], ◌∷◌, refl, ap, sym, ◌∙◌, length, arith, Some, None}
use Rattle.std.proofs.lemmas.Bool.{cases_Bool, lt-ltb, ltb-false}
use Rattle.lexeme_reader.specs.Fronts.{line}
use Rattle.scan_model.specs.declared.token.Kind.{Kind}
use Rattle.scan_model.specs.declared.token.Tok.{Tok}
use Rattle.scan_model.specs.Spliced.{Spot, byte_at, line_at}
use Rattle.scan_model.specs.Tokens.{Lexeme, bytes, lexeme, after_blanks, token_at, next_token}
use Rattle.scan_model.specs.Lines.{tok}
use Rattle.scan_model.proofs.RestLemmas.{rest_of_line-cons, rest_of_line-newline, rest_of_line-nil}
use Rattle.pp_lexer.specs.Reads.{is_nil, line_here}

-- ## From the lexeme to the token

-- ## Whether something stands on the line

pub on_line : (s : List Spot) (c : ℕ) → byte_at s ≡ Some c → not (c == 10) ≡ nat_lt 0 (length (line s))
on_line [] c here = cc
on_line (x ∷ s) c here =
    let same : c ≡ x.byte = cc in
    ap (λ b. not (b == 10)) same ∙ elim (cases_Bool (x.byte == 10)) [
      | inl e ↦ ap not e ∙ ap (λ b. nat_lt 0 (length b)) (sym (rest_of_line-newline x.byte (bytes s) e))
      | inr e ↦
          let len : length (line (x ∷ s)) ≡ suc (length (line s)) = ap length (rest_of_line-cons x.byte (bytes s) e) in
          ap not e ∙ sym (lt-ltb 0 (length (line (x ∷ s))) (omega (arith, len)))
    ]

pub on_line_end : (s : List Spot) → byte_at s ≡ None → false ≡ nat_lt 0 (length (line s))
on_line_end [] here = ap (λ b. nat_lt 0 (length b)) (sym rest_of_line-nil)
on_line_end (x ∷ s) here = cc

pub token_some : (text : List ℕ) (before : List Tok) (s at : List Spot) (l : Lexeme) → at ≡ after_blanks s → 0 < length (line at) → lexeme text before at ≡ l
    → next_token text before s ≡ Some l
unfolding next_token
token_some text before s at l e here is = ap (token_at text before) (sym e) ∙ some at here is where
  some : (at : List Spot) → 0 < length (line at) → lexeme text before at ≡ l → token_at text before at ≡ Some l
  some [] here is = let z : length (line []) ≡ 0 = ap length rest_of_line-nil in absurd (omega (arith, here, z))
  some (x ∷ at) here is = elim (cases_Bool (x.byte == 10)) [
    | inl e ↦ let z : length (line (x ∷ at)) ≡ 0 = ap length (rest_of_line-newline x.byte (bytes at) e) in absurd (omega (arith, here, z))
    | inr e ↦ rw e (ap Some is)
  ]

pub token_none : (text : List ℕ) (before : List Tok) (s at : List Spot) → at ≡ after_blanks s → nat_lt 0 (length (line at)) ≡ false → next_token text before s ≡ None
unfolding next_token
token_none text before s at e here = ap (token_at text before) (sym e) ∙ none at here where
  none : (at : List Spot) → nat_lt 0 (length (line at)) ≡ false → token_at text before at ≡ None
  none [] here = refl
  none (x ∷ at) here = elim (cases_Bool (x.byte == 10)) [
    | inl e ↦ rw e refl
    | inr e ↦
        let len : length (line (x ∷ at)) ≡ suc (length (line at)) = ap length (rest_of_line-cons x.byte (bytes at) e) in
        let z = ltb-false 0 (length (line (x ∷ at))) here in absurd (omega (arith, len, z))
  ]

-- the token, by what the code has found
pub tok_is : (text : List ℕ) (before : List Tok) (s at left : List Spot) (kind : Kind) (b : List ℕ) (space : Bool) (line : ℕ) → at ≡ after_blanks s
    → space ≡ (nat_lt (length (after_blanks s)) (length s) || is_nil before) → line ≡ line_here before (line_at text at)
    → record { kind = kind; text = b; space = space; line = line } ≡ tok text before s (record { kind = kind; text = b; left = left })
unfolding tok
tok_is text [] s at left kind b space line e sp ln =
    let yes : space ≡ true = sp ∙ or_yes (nat_lt (length (after_blanks s)) (length s)) in
    ap (λ x. record { kind = kind; text = b; space = x; line = line }) yes ∙ ap (λ x. record { kind = kind; text = b; space = true; line = x }) (ln ∙ ap (line_at text) e) where
      or_yes : (a : Bool) → (a || true) ≡ true
      or_yes true = refl
      or_yes false = refl
tok_is text (t ∷ ts) s at left kind b space line e sp ln =
    let yes : space ≡ nat_lt (length (after_blanks s)) (length s) = sp ∙ or_no (nat_lt (length (after_blanks s)) (length s)) in
    ap (λ x. record { kind = kind; text = b; space = x; line = line }) yes ∙ ap (λ x. record { kind = kind; text = b; space = nat_lt (length (after_blanks s)) (length s); line = x }) ln where
      or_no : (a : Bool) → (a || false) ≡ a
      or_no true = refl
      or_no false = refl
