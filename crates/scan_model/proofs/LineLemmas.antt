-- Each token takes at least one byte, so the lines of a text are those of one step and of the rest.
use Rattle.std.proofs.Common.{◌≡◌, ℕ, zero, suc, ◌+◌, ◌-◌, ◌<◌, ◌≤◌, Bool, true, false, cond, append-nil, ◌==◌, nat_lt, List, [], ◌∷◌, ◌++◌, refl, ap, sym, ◌∙◌, subst, drop, take, length, length-drop, arith, Option, Some, None}
use Rattle.std.proofs.lemmas.Bool.{ltb-true, cond_both, and_parts}
use Rattle.std.specs.Option.{option_map_or}
use Rattle.scan_model.specs.declared.token.Kind.{Kind}
use Rattle.scan_model.specs.declared.token.Kind.TheVariants.{Stray, Punct, Header}
use Rattle.scan_model.specs.declared.token.Tok.{Tok}
use Rattle.scan_model.specs.Spliced.{Spot, line_at}
use Rattle.scan_model.specs.Spelling.{encoding_len, is_delimited, after_raw, longest, is_header, is_suffix}
use Rattle.scan_model.specs.Tokens.{Lexeme, is_token, is_character, kind_of, bytes, after_blanks, cut, wants_header, rest_of_line, from_place, raw_closed, raw_lexeme, written_after, lexeme, token_at, next_token}
use Rattle.scan_model.specs.Lines.{tok, closed, lines_up_to, lines_from}
use Rattle.scan_model.proofs.LexemeCases.{lexeme_cases, stray_len}
use Rattle.scan_model.proofs.BlankLemmas.{length-after_blanks}

-- less is left
abbrev Takes : List Spot → Lexeme → Type 0
Takes spots l = length l.left < length spots

cut_takes : (kind : Kind) (n : ℕ) (x : Spot) (s : List Spot) → 0 < n → Takes (x ∷ s) (cut kind n (x ∷ s))
cut_takes kind n x s h = omega (arith, length-drop n (x ∷ s), h)

length-from_place : (place : ℕ) (s : List Spot) → length (from_place place s) ≤ length s
length-from_place place [] = omega arith
length-from_place place (x ∷ s) = cond_both (nat_lt (x.place) place) (from_place place s) (x ∷ s) (λ t. length t ≤ length (x ∷ s))
    (λ e. let k : length (from_place place s) ≤ length s = length-from_place place s in omega arith) (λ e. omega arith)

line_takes : (x : Spot) (s : List Spot) → (x.byte == 10) ≡ false → Takes (x ∷ s) (cut Stray (length (rest_of_line (bytes (x ∷ s)))) (x ∷ s))
unfolding rest_of_line
line_takes x s h = cut_takes Stray (length (rest_of_line (bytes (x ∷ s)))) x s (rw h (omega arith))

closed_takes : (text intro written : List ℕ) (after : Option (List ℕ)) (s : List Spot) → length (raw_closed text intro written after s).left ≤ length s
closed_takes text intro written None s = length-from_place (length text) s
closed_takes text intro written (Some after) s =
    let place = length text - length after in
    let k : length (from_place place s) ≤ length s = length-from_place place s in
    omega (arith, k, length-drop (longest is_suffix (bytes (from_place place s))) (from_place place s))

raw_takes : (text : List ℕ) (x : Spot) (s : List Spot) → (x.byte == 10) ≡ false → Takes (x ∷ s) (raw_lexeme text (x ∷ s))
unfolding raw_lexeme
raw_takes text x s h =
    let quote = encoding_len (bytes (x ∷ s)) + 1 in
    let written = written_after text (drop quote (x ∷ s)) in
    cond_both (is_delimited written) (raw_closed text (bytes (take (quote + 1) (x ∷ s))) written (after_raw written) (drop (quote + 1) (x ∷ s)))
    (cut Stray (length (rest_of_line (bytes (x ∷ s)))) (x ∷ s)) (Takes (x ∷ s))
    (λ e. let k = closed_takes text (bytes (take (quote + 1) (x ∷ s))) written (after_raw written) (drop (quote + 1) (x ∷ s)) in
    omega (arith, k, length-drop (quote + 1) (x ∷ s)))
    (λ e. line_takes x s h)

lexeme_takes : (text : List ℕ) (before : List Tok) (x : Spot) (s : List Spot) → (x.byte == 10) ≡ false → Takes (x ∷ s) (lexeme text before (x ∷ s))
lexeme_takes text before x s h =
    let b = rest_of_line (bytes (x ∷ s)) in
    let header = longest is_header b in
    let n = longest is_token b in
    let character = longest is_character b in
    let some : 0 < stray_len b = cond_both (nat_lt 0 character) character 1 (λ k. 0 < k) (λ e. ltb-true 0 character e) (λ e. omega arith) in
    lexeme_cases text before (x ∷ s) (Takes (x ∷ s))
    (λ e. cut_takes Header header x s (ltb-true 0 header (and_parts (wants_header before) (nat_lt 0 header) e).1))
    (λ e. raw_takes text x s h) (λ e. line_takes x s h) (λ e. cut_takes Punct 1 x s (omega arith))
    (λ e. cut_takes (kind_of (take n b)) n x s (ltb-true 0 n e)) (cut_takes Stray (stray_len b) x s some)

-- a test that lets a lexeme through
pub if_some : (b : Bool) (x l : Lexeme) → cond b None (Some x) ≡ Some l → (b ≡ false) × (x ≡ l)
if_some true x l e = cc
if_some false x l e = (refl, cc)

token_takes : (text : List ℕ) (before : List Tok) (s : List Spot) (l : Lexeme) → token_at text before s ≡ Some l → Takes s l
token_takes text before [] l e = cc
token_takes text before (x ∷ s) l e =
    let both = if_some (x.byte == 10) (lexeme text before (x ∷ s)) l e in
    subst (Takes (x ∷ s)) both.1 (lexeme_takes text before x s both.0)

pub next_takes : (text : List ℕ) (before : List Tok) (s : List Spot) (l : Lexeme) → next_token text before s ≡ Some l → length l.left < length s
unfolding next_token
next_takes text before s l e =
    let k = token_takes text before (after_blanks s) l e in
    let z = length-after_blanks s in
    omega arith

-- ## Steps of lines_from

-- the end, in however many steps
lines_end : (n : ℕ) (text : List ℕ) (before : List Tok) → lines_up_to n text before [] ≡ closed before (line_at text [])
unfolding next_token after_blanks
lines_end zero text before = refl
lines_end (suc n) text before = ap (λ t. closed before (line_at text []) ++ t) (lines_end n text []) ∙ append-nil (closed before (line_at text []))

enough : (n m : ℕ) (text : List ℕ) (before : List Tok) (s : List Spot) → length s ≤ n → length s ≤ m → lines_up_to n text before s ≡ lines_up_to m text before s
enough n m text before [] h k = lines_end n text before ∙ sym (lines_end m text before)
enough zero m text before (x ∷ s) h k = absurd (omega arith)
enough (suc n) zero text before (x ∷ s) h k = absurd (omega arith)
enough (suc n) (suc m) text before (x ∷ s) h k =
    let at = x ∷ s in
    let newline = after_blanks at in
    let shorter = length-after_blanks at in
    elim (next_token text before at) as (λ o. next_token text before at ≡ o →
    option_map_or (λ l. lines_up_to n text (before ++ tok text before at l ∷ []) l.left) o (closed before (line_at text newline) ++ lines_up_to n text [] (drop 1 newline))
    ≡ option_map_or (λ l. lines_up_to m text (before ++ tok text before at l ∷ []) l.left) o (closed before (line_at text newline) ++ lines_up_to m text [] (drop 1 newline))) [
      | Some l ↦ λ e. let z = next_takes text before at l e in enough n m text (before ++ tok text before at l ∷ []) l.left (omega arith) (omega arith)
      | None ↦ λ e. ap (λ t. closed before (line_at text newline) ++ t) (enough n m text [] (drop 1 newline) (omega (arith, length-drop 1 newline)) (omega (arith, length-drop 1 newline)))
    ] refl

pub lines_from-end : (text : List ℕ) (before : List Tok) → lines_from text before [] ≡ closed before (line_at text [])
unfolding lines_from
lines_from-end text before = refl

-- a token and the rest
pub lines_from-token : (text : List ℕ) (before : List Tok) (s : List Spot) (l : Lexeme) → next_token text before s ≡ Some l
    → lines_from text before s ≡ lines_from text (before ++ tok text before s l ∷ []) l.left
unfolding lines_from
lines_from-token text before [] l e = absurd (let z = next_takes text before [] l e in omega arith)
lines_from-token text before (x ∷ s) l e =
    let z = next_takes text before (x ∷ s) l e in
    rw e (enough (length s) (length l.left) text (before ++ tok text before (x ∷ s) l ∷ []) l.left (omega arith) (omega arith))

-- no token, so a newline or the end
pub lines_from-newline : (text : List ℕ) (before : List Tok) (s : List Spot) → next_token text before s ≡ None
    → lines_from text before s ≡ closed before (line_at text (after_blanks s)) ++ lines_from text [] (drop 1 (after_blanks s))
unfolding lines_from after_blanks
lines_from-newline text before [] e = sym (append-nil (closed before (line_at text [])))
lines_from-newline text before (x ∷ s) e =
    let newline = after_blanks (x ∷ s) in
    let z = length-after_blanks (x ∷ s) in
    rw e (ap (λ t. closed before (line_at text newline) ++ t)
    (enough (length s) (length (drop 1 newline)) text [] (drop 1 newline) (omega (arith, length-drop 1 newline)) (omega arith)))
