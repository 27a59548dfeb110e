-- A token, by the cases of its definition ([lex.pptoken]).
use Rattle.std.proofs.Common.{◌≡◌, ℕ, true, cond, if◌then◌else◌, ◌&&◌, List, take, length, nat_lt}
use Rattle.std.proofs.lemmas.Bool.{cond_both}
use Rattle.scan_model.specs.declared.token.Kind.TheVariants.{Header, Punct, Stray}
use Rattle.scan_model.specs.declared.token.Tok.{Tok}
use Rattle.scan_model.specs.Spelling.{is_header, opens_raw, longest}
use Rattle.scan_model.specs.Spliced.{Spot}
use Rattle.scan_model.specs.Tokens.{Lexeme, bytes, cut, is_token, is_character, is_open, is_lone_less, kind_of, lexeme, raw_lexeme, rest_of_line, wants_header}

-- how long the character is that the bytes begin with, or 1 where none does
abbrev pub stray_len : List ℕ → ℕ
stray_len s = let character = longest is_character s in if nat_lt 0 character then character else 1

-- What each of the six kinds of tokens has, the token has that stands here.
pub lexeme_cases : (text : List ℕ) (before : List Tok) (s : List Spot) (P : Lexeme → Type 0)
    → ((wants_header before && nat_lt 0 (longest is_header (rest_of_line (bytes s)))) ≡ true → P (cut Header (longest is_header (rest_of_line (bytes s))) s))
    → (opens_raw (rest_of_line (bytes s)) ≡ true → P (raw_lexeme text s))
    → (is_open (rest_of_line (bytes s)) ≡ true → P (cut Stray (length (rest_of_line (bytes s))) s))
    → (is_lone_less (rest_of_line (bytes s)) ≡ true → P (cut Punct 1 s))
    → (nat_lt 0 (longest is_token (rest_of_line (bytes s))) ≡ true → P (cut (kind_of (take (longest is_token (rest_of_line (bytes s))) (rest_of_line (bytes s)))) (longest is_token (rest_of_line (bytes s))) s))
    → P (cut Stray (stray_len (rest_of_line (bytes s))) s)
    → P (lexeme text before s)
unfolding lexeme
lexeme_cases text before s P header raw unclosed less token stray =
    let b = rest_of_line (bytes s) in
    let n = longest is_token b in
    let of_stray = cut Stray (stray_len b) s in
    let of_token = cond (nat_lt 0 n) (cut (kind_of (take n b)) n s) of_stray in
    let of_less = cond (is_lone_less b) (cut Punct 1 s) of_token in
    let of_open = cond (is_open b) (cut Stray (length b) s) of_less in
    let of_raw = cond (opens_raw b) (raw_lexeme text s) of_open in
    cond_both (wants_header before && nat_lt 0 (longest is_header b)) (cut Header (longest is_header b) s) of_raw P header
    (λ z. cond_both (opens_raw b) (raw_lexeme text s) of_open P raw
    (λ z. cond_both (is_open b) (cut Stray (length b) s) of_less P unclosed
    (λ z. cond_both (is_lone_less b) (cut Punct 1 s) of_token P less
    (λ z. cond_both (nat_lt 0 n) (cut (kind_of (take n b)) n s) of_stray P token (λ z. stray)))))
