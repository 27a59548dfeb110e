-- What is left after a token is the end of what was there.
use Rattle.std.proofs.Common.{◌≡◌, ℕ, suc, ◌+◌, ◌-◌, ◌<◌, true, false, cond, ◌&&◌, ◌==◌, nat_lt, if◌then◌else◌, List, [], ◌∷◌, refl, subst, drop, take, length, arith, Option, Some, None}
use Rattle.std.proofs.lemmas.Bool.{cond_both}
use Rattle.scan_model.specs.declared.token.Kind.TheVariants.{Stray, Punct, Header}
use Rattle.scan_model.specs.declared.token.Tok.{Tok}
use Rattle.scan_model.specs.Spliced.{Spot}
use Rattle.scan_model.specs.Spelling.{opens_raw, encoding_len, is_delimited, after_raw, longest, is_header, is_suffix}
use Rattle.scan_model.specs.Tokens.{Lexeme, is_token, is_character, kind_of, bytes, after_blanks, cut, wants_header, is_open, is_lone_less, rest_of_line, from_place, raw_closed, raw_lexeme, written_after, lexeme, token_at, next_token}
use Rattle.scan_model.proofs.LexemeCases.{lexeme_cases, stray_len}
use Rattle.scan_model.proofs.BlankLemmas.{EndOf, EndOf-drop, end_after_blanks}
use Rattle.scan_model.proofs.LineLemmas.{if_some}

end_from_place : (place : ℕ) (s : List Spot) → EndOf s (from_place place s)
end_from_place place [] = (0, refl)
end_from_place place (x ∷ s) = let more = end_from_place place s in
    cond_both (nat_lt x.place place) (from_place place s) (x ∷ s) (EndOf (x ∷ s)) (λ e. (suc more.0, more.1)) (λ e. (0, refl))

EndOf-end : (s t u : List Spot) → EndOf s t → EndOf t u → EndOf s u
EndOf-end s t u h k = EndOf-drop s u h.0 (subst (λ r. EndOf r u) h.1 k)

closed_end : (text intro written : List ℕ) (after : Option (List ℕ)) (s : List Spot) → EndOf s (raw_closed text intro written after s).left
closed_end text intro written None s = end_from_place (length text) s
closed_end text intro written (Some after) s =
    let place = length text - length after in
    EndOf-end s (from_place place s) (drop (longest is_suffix (bytes (from_place place s))) (from_place place s)) (end_from_place place s) (longest is_suffix (bytes (from_place place s)), refl)

raw_end : (text : List ℕ) (s : List Spot) → EndOf s (raw_lexeme text s).left
unfolding raw_lexeme
raw_end text s =
    let quote = encoding_len (bytes s) + 1 in
    let written = written_after text (drop quote s) in
    cond_both (is_delimited written) (raw_closed text (bytes (take (quote + 1) s)) written (after_raw written) (drop (quote + 1) s))
    (cut Stray (length (rest_of_line (bytes s))) s) (λ l. EndOf s l.left)
    (λ e. EndOf-drop s _ (quote + 1) (closed_end text (bytes (take (quote + 1) s)) written (after_raw written) (drop (quote + 1) s)))
    (λ e. (length (rest_of_line (bytes s)), refl))

lexeme_end : (text : List ℕ) (before : List Tok) (s : List Spot) → EndOf s (lexeme text before s).left
lexeme_end text before s =
    let b = rest_of_line (bytes s) in
    lexeme_cases text before s (λ l. EndOf s l.left) (λ e. (longest is_header b, refl)) (λ e. raw_end text s) (λ e. (length b, refl)) (λ e. (1, refl))
    (λ e. (longest is_token b, refl)) (stray_len b, refl)

token_end : (text : List ℕ) (before : List Tok) (s : List Spot) (l : Lexeme) → token_at text before s ≡ Some l → EndOf s l.left
token_end text before [] l e = cc
token_end text before (x ∷ s) l e = let both = if_some (x.byte == 10) (lexeme text before (x ∷ s)) l e in subst (λ m. EndOf (x ∷ s) m.left) both.1 (lexeme_end text before (x ∷ s))

-- of what follows the blanks, and of what was there with them
pub next_end : (text : List ℕ) (before : List Tok) (s : List Spot) (l : Lexeme) → next_token text before s ≡ Some l → EndOf (after_blanks s) l.left
unfolding next_token
next_end text before s l e = token_end text before (after_blanks s) l e

pub next_end_whole : (text : List ℕ) (before : List Tok) (s : List Spot) (l : Lexeme) → next_token text before s ≡ Some l → EndOf s l.left
next_end_whole text before s l e = EndOf-end s (after_blanks s) l.left (end_after_blanks s) (next_end text before s l e)

-- a token stands where something is left
token_some : (text : List ℕ) (before : List Tok) (s : List Spot) (l : Lexeme) → token_at text before s ≡ Some l → 0 < length s
token_some text before [] l e = cc
token_some text before (x ∷ s) l e = omega arith

pub next_some : (text : List ℕ) (before : List Tok) (s : List Spot) (l : Lexeme) → next_token text before s ≡ Some l → 0 < length (after_blanks s)
unfolding next_token
next_some text before s l e = token_some text before (after_blanks s) l e

-- where none stands, a newline does, or nothing is left
abbrev pub EndsLine : List Spot → Type 0
EndsLine [] = Unit {0}
EndsLine (x ∷ s) = (x.byte == 10) ≡ true

token_none : (text : List ℕ) (before : List Tok) (s : List Spot) → token_at text before s ≡ None → EndsLine s
token_none text before [] e = tt
token_none text before (x ∷ s) e = elim (x.byte == 10) as (λ b. cond b None (Some (lexeme text before (x ∷ s))) ≡ None → b ≡ true) [ true ↦ λ h. refl | false ↦ λ h. cc ] e

pub next_ends_line : (text : List ℕ) (before : List Tok) (s : List Spot) → next_token text before s ≡ None → EndsLine (after_blanks s)
unfolding next_token
next_ends_line text before s e = token_none text before (after_blanks s) e
