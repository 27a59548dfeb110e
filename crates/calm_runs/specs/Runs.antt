-- Runs of bytes that hold whole tokens.
use Rattle.std.specs.Prelude.{◌≡◌, ℕ, zero, suc, Bool, true, false, not, ◌&&◌, ◌||◌, ◌⊎◌, ◌==◌, nat_lt, List, [], ◌∷◌, Some}
use Rattle.scan_model.specs.declared.token.Tok.{Tok}
use Rattle.scan_model.specs.Spliced.{Spot}
use Rattle.scan_model.specs.Tokens.{Lexeme, next_blank, next_token, wants_header}

-- the byte shows as it is written, and neither a literal, a comment nor a character past ASCII begins with it
abbrev pub is_calm : ℕ → Bool
is_calm c = nat_lt c 128 && not (c == 10 || c == 13 || c == 34 || c == 39 || c == 47 || c == 92)

-- no token goes on after the byte: a space, a tab or one of `;,(){}[]`
abbrev pub ends_token : ℕ → Bool
ends_token c = c == 32 || c == 9 || c == 59 || c == 44 || c == 40 || c == 41 || c == 123 || c == 125 || c == 91 || c == 93

-- the bytes are calm, and the last one ends a token
abbrev pub is_run : List ℕ → Bool
is_run [] = true
is_run (c ∷ []) = is_calm c && ends_token c
is_run (c ∷ d ∷ s) = is_calm c && is_run (d ∷ s)

-- a blank or a token has been passed, on a line on which no header name is tried
abbrev pub PassesOne : List ℕ → List Spot → List Spot → Type 0
PassesOne text s left = (next_blank s ≡ Some left) ⊎ ((l : Lexeme) × ((before : List Tok) → wants_header before ≡ false → next_token text before s ≡ Some l) × (left ≡ l.left))

-- so many blanks and tokens
abbrev pub PassesCount : List ℕ → ℕ → List Spot → List Spot → Type 0
PassesCount text zero s left = left ≡ s
PassesCount text (suc n) s left = (mid : List Spot) × PassesOne text s mid × PassesCount text n mid left

abbrev pub PassesRun : List ℕ → List Spot → List Spot → Type 0
PassesRun text s left = (n : ℕ) × PassesCount text n s left
