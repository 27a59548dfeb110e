-- A token that is read after the blanks before it.
use Rattle.std.proofs.Common.{◌≡◌, ℕ, true, nat_lt, List, length, ap, sym, ◌∙◌, subst, Some}
use Rattle.std.proofs.lemmas.Bool.{ltb-true}
use Rattle.scan_model.specs.declared.token.Tok.{Tok}
use Rattle.scan_model.specs.Spliced.{Spot}
use Rattle.scan_model.specs.Tokens.{bytes, rest_of_line, after_blanks, lexeme, next_token}
use Rattle.scan_model.proofs.BlankLemmas.{end_after_blanks}
use Rattle.pp_lexer.specs.declared.lexeme.Found.{Found}
use Rattle.pp_lexer.specs.Lexemes.{spelling_of, GivesLexeme}
use Rattle.pp_lexer.specs.Brackets.{IsBare}
use Rattle.pp_lexer.proofs.TokenLemmas.{token_some}
use Rattle.pp_lexer.proofs.BracketLemmas.{bare-end}
use Rattle.pp_lexer.proofs.LeftLemmas.{next_end}

pub token_read : (text text' : List ℕ) (before : List Tok) (s at left : List Spot) (found : Found) → text' ≡ text → at ≡ after_blanks s → nat_lt 0 (length (rest_of_line (bytes at))) ≡ true
    → GivesLexeme text' (lexeme text' before at) found at left
    → next_token text before s ≡ Some (record { kind = found.kind; text = spelling_of text found.spelling at left; left = left })
token_read text text' before s at left found same blanks some given =
    token_some text before s at _ blanks (ltb-true 0 _ some)
    (ap (λ t. lexeme t before at) (sym same) ∙ given ∙ ap (λ t. record { kind = found.kind; text = spelling_of t found.spelling at left; left = left }) same)

-- ## Where no `>` closes a header name

pub bare_blanks : (end : ℕ) (text : List ℕ) (s at : List Spot) → at ≡ after_blanks s → IsBare end text s → IsBare end text at
bare_blanks end text s at blanks bare = subst (IsBare end text) (sym blanks) (bare-end end text s (after_blanks s) (end_after_blanks s) bare)

pub bare_left : (end : ℕ) (text text' : List ℕ) (before : List Tok) (s at left : List Spot) (found : Found) → text' ≡ text → at ≡ after_blanks s
    → next_token text before s ≡ Some (record { kind = found.kind; text = spelling_of text found.spelling at left; left = left }) → IsBare end text' at → IsBare end text left
bare_left end text text' before s at left found same blanks token bare =
    bare-end end text (after_blanks s) left (next_end text before s _ token) (subst (IsBare end text) blanks (subst (λ t. IsBare end t at) same bare))
