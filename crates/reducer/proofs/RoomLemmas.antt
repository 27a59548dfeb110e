-- The spellings of a text's tokens are together no longer than what is read of the text.
use Rattle.std.proofs.Common.{◌≡◌, ℕ, zero, suc, ◌+◌, ◌-◌, ◌<◌, ◌≤◌, Bool, true, false, cond, ◌&&◌, ◌==◌, nat_lt, if◌then◌else◌, List, [], ◌∷◌, ◌++◌, ap, sym, ◌∙◌, subst, take, drop, length, length-append, length-drop, length-take, max, arith, Option, Some, None}
use Rattle.std.proofs.lemmas.Bool.{cond_both, ltb-false}
use Rattle.std.proofs.lemmas.List.{length-map}
use Rattle.scan_model.specs.declared.token.Kind.{Kind}
use Rattle.scan_model.specs.declared.token.Kind.TheVariants.{Stray, Punct, Header}
use Rattle.scan_model.specs.declared.token.Tok.{Tok}
use Rattle.scan_model.specs.Spliced.{Spot, at_newline, is_hidden, shown}
use Rattle.scan_model.specs.Spelling.{encoding_len, is_delimited, after_raw, longest, is_header, is_suffix}
use Rattle.scan_model.specs.Tokens.{Lexeme, is_token, kind_of, bytes, after_blanks, cut, rest_of_line, from_place, raw_closed, raw_lexeme, written_after, lexeme, token_at, next_token}
use Rattle.scan_model.proofs.LexemeCases.{lexeme_cases, stray_len}
use Rattle.scan_model.proofs.BlankLemmas.{EndOf, end_after_blanks}
use Rattle.scan_model.proofs.LineLemmas.{if_some, next_takes}
use Rattle.line_splice.specs.declared.cursor.Cursor.{Cursor}
use Rattle.line_splice.specs.Cursor.{text_of, rest}
use Rattle.pp_lexer.specs.Reads.{PassesToken}
use Rattle.pp_lexer.proofs.LeftLemmas.{next_end, next_end_whole}
use Rattle.reducer.specs.declared.flat.TokRecord.{TokRecord}
use Rattle.reducer.specs.declared.open_lines.OpenLines.{OpenLines}
use Rattle.reducer.specs.Building.{HasRoom}
use Rattle.reducer.specs.Placed.{place_in, IsFurther, TakesBytes}
use Rattle.reducer.proofs.KeptLemmas.{same_token}
use Rattle.reducer.proofs.PassLemmas.{wants_header-nil}

-- ## Places rise

-- each spot lies before the next, and the last one before the end
abbrev pub ArePlaced : ℕ → List Spot → Type 0
ArePlaced most [] = Unit {0}
ArePlaced most (x ∷ s) = (x.place < place_in most s) × ArePlaced most s

shown_placed : (most last before place line : ℕ) (t : List ℕ) → most ≡ place + length t
    → (place ≤ place_in most (shown last before place line t)) × ArePlaced most (shown last before place line t)
unfolding shown
shown_placed most last before place line [] e =
    cond_both (last == 10) [] (record { byte = 10; place = place; line = line } ∷ []) (λ s. (place ≤ place_in most s) × ArePlaced most s)
    (λ h. (omega arith, tt)) (λ h. (omega arith, (omega arith, tt)))
shown_placed most last before place line (c ∷ after) e =
    let byte = cond (at_newline (c ∷ after)) 10 c in
    let below = cond (c == 10) (line + 1) line in
    let hidden = shown_placed most last c (place + 1) below after (omega arith) in
    let next = shown_placed most byte c (place + 1) below after (omega arith) in
    cond_both (is_hidden before c after) (shown last c (place + 1) below after) (record { byte = byte; place = place; line = line } ∷ shown byte c (place + 1) below after)
    (λ s. (place ≤ place_in most s) × ArePlaced most s) (λ h. (omega (arith, hidden.0), hidden.1)) (λ h. (omega arith, (omega (arith, next.0), next.1)))

pub rest_placed : (most last place line : ℕ) (t : List ℕ) → most ≡ place + length t → ArePlaced most (shown last 0 place line t)
rest_placed most last place line t e = (shown_placed most last 0 place line t e).1

placed-drop : (most n : ℕ) (s : List Spot) → ArePlaced most s → ArePlaced most (drop n s)
placed-drop most zero s h = h
placed-drop most (suc n) [] h = tt
placed-drop most (suc n) (x ∷ s) h = placed-drop most n s h.1

-- no place is past the end
pub place_most : (most : ℕ) (s : List Spot) → ArePlaced most s → place_in most s ≤ most + 1
place_most most [] h = omega arith
place_most most (x ∷ s) h = let more = place_most most s h.1 in omega (arith, h.0)

-- so many bytes lie between a spot and a later one, at least
far : (most n : ℕ) (s : List Spot) → ArePlaced most s → place_in most s + length (take n s) ≤ place_in most (drop n s)
far most zero s h = omega arith
far most (suc n) [] h = omega arith
far most (suc n) (x ∷ s) h = let more = far most n s h.1 in omega (arith, h.0)

place_later : (most n : ℕ) (s : List Spot) → ArePlaced most s → place_in most s ≤ place_in most (drop n s)
place_later most n s h = let k = far most n s h in omega arith

pub place_end : (most : ℕ) (s t : List Spot) → EndOf s t → ArePlaced most s → place_in most s ≤ place_in most t
place_end most s t e h = subst (λ t. place_in most s ≤ place_in most t) (sym e.1) (place_later most e.0 s h)

-- ## A token's spelling

-- it has no more bytes than the token takes of the text
abbrev Fits : ℕ → List Spot → Lexeme → Type 0
Fits most s l = place_in most s + length l.text ≤ place_in most l.left

length-bytes : (s : List Spot) → length (bytes s) ≡ length s
length-bytes s = length-map s (λ (spot : Spot). spot.byte)

cut_fits : (most : ℕ) (kind : Kind) (n : ℕ) (s : List Spot) → ArePlaced most s → Fits most s (cut kind n s)
cut_fits most kind n s h = omega (arith, far most n s h, length-bytes (take n s))

-- from a place on nothing lies before it
from_least : (most place : ℕ) (s : List Spot) → place ≤ most → ArePlaced most s → (place ≤ place_in most (from_place place s)) × (place_in most s ≤ place_in most (from_place place s)) × ArePlaced most (from_place place s)
from_least most place [] within h = (omega arith, omega arith, tt)
from_least most place (x ∷ s) within h =
    let more = from_least most place s within h.1 in
    cond_both (nat_lt x.place place) (from_place place s) (x ∷ s) (λ t. (place ≤ place_in most t) × (x.place ≤ place_in most t) × ArePlaced most t)
    (λ e. (more.0, omega (arith, more.1, h.0), more.2)) (λ e. (ltb-false x.place place e, omega arith, h))

-- What follows a raw string's first bytes is written up to `most`. All that is known of its end is where it begins.
closed_fits : (text intro written : List ℕ) (after : Option (List ℕ)) (s spots : List Spot) → ArePlaced (length text) spots
    → place_in (length text) s + length intro ≤ place_in (length text) spots → place_in (length text) s + length intro + length written ≤ max (length text) (place_in (length text) s + length intro)
    → Fits (length text) s (raw_closed text intro written after spots)
closed_fits text intro written None s spots h front some =
    let from = from_least (length text) (length text) spots (omega arith) h in omega (arith, length-append intro written, from.0, from.1, some)
closed_fits text intro written (Some after) s spots h front some =
    let place = length text - length after in
    let left = from_place place spots in
    let n = longest is_suffix (bytes left) in
    let from = from_least (length text) place spots (omega arith) h in
    let inside = take (length written - length after) written in
    let short = length-take (length written - length after) written in
    let more = far (length text) n left from.2 in
    let whole : length ((intro ++ inside) ++ bytes (take n left)) ≡ length intro + length inside + length (take n left) =
    length-append (intro ++ inside) (bytes (take n left)) ∙ (λ i. length-append intro inside i + length-bytes (take n left) i) in
    omega (arith, whole, short, more, from.0, from.1, some)

-- the bytes before the inside of a raw string, and the inside with what follows it
intro_fits : (text : List ℕ) (quote : ℕ) (s : List Spot) → ArePlaced (length text) s
    → place_in (length text) s + length (bytes (take (quote + 1) s)) + length (written_after text (drop quote s)) ≤ max (length text) (place_in (length text) s + length (bytes (take (quote + 1) s)))
intro_fits text quote s h = by (drop quote s) (far (length text) quote s h) where
  intro : length (bytes (take (quote + 1) s)) ≤ length (take quote s) + 1
  intro = omega (arith, length-bytes (take (quote + 1) s), length-take (quote + 1) s, length-take quote s)

  by : (q : List Spot) → place_in (length text) s + length (take quote s) ≤ place_in (length text) q
      → place_in (length text) s + length (bytes (take (quote + 1) s)) + length (written_after text q) ≤ max (length text) (place_in (length text) s + length (bytes (take (quote + 1) s)))
  by [] k = omega arith
  by (y ∷ q) k = omega (arith, intro, length-drop (y.place + 1) text)

raw_fits : (text : List ℕ) (s : List Spot) → ArePlaced (length text) s → Fits (length text) s (raw_lexeme text s)
unfolding raw_lexeme
raw_fits text s h =
    let quote = encoding_len (bytes s) + 1 in
    let written = written_after text (drop quote s) in
    let spots = drop (quote + 1) s in
    cond_both (is_delimited written) (raw_closed text (bytes (take (quote + 1) s)) written (after_raw written) spots) (cut Stray (length (rest_of_line (bytes s))) s) (Fits (length text) s)
    (λ e. closed_fits text (bytes (take (quote + 1) s)) written (after_raw written) s spots (placed-drop (length text) (quote + 1) s h)
    (omega (arith, far (length text) (quote + 1) s h, length-bytes (take (quote + 1) s))) (intro_fits text quote s h))
    (λ e. cut_fits (length text) Stray (length (rest_of_line (bytes s))) s h)

lexeme_fits : (text : List ℕ) (before : List Tok) (s : List Spot) → ArePlaced (length text) s → Fits (length text) s (lexeme text before s)
lexeme_fits text before s h =
    let most = length text in
    let b = rest_of_line (bytes s) in
    let n = longest is_token b in
    lexeme_cases text before s (Fits most s) (λ e. cut_fits most Header (longest is_header b) s h) (λ e. raw_fits text s h) (λ e. cut_fits most Stray (length b) s h)
    (λ e. cut_fits most Punct 1 s h) (λ e. cut_fits most (kind_of (take n b)) n s h) (cut_fits most Stray (stray_len b) s h)

token_fits : (text : List ℕ) (before : List Tok) (s : List Spot) (l : Lexeme) → ArePlaced (length text) s → token_at text before s ≡ Some l → Fits (length text) s l
token_fits text before [] l h e = cc
token_fits text before (x ∷ s) l h e =
    let both = if_some (x.byte == 10) (lexeme text before (x ∷ s)) l e in subst (Fits (length text) (x ∷ s)) both.1 (lexeme_fits text before (x ∷ s) h)

next_fits : (text : List ℕ) (before : List Tok) (s : List Spot) (l : Lexeme) → ArePlaced (length text) (after_blanks s) → next_token text before s ≡ Some l → Fits (length text) (after_blanks s) l
unfolding next_token
next_fits text before s l h e = token_fits text before (after_blanks s) l h e

-- a later spot lies further on
place_rises : (most : ℕ) (s t : List Spot) → EndOf s t → length t < length s → ArePlaced most s → place_in most s < place_in most t
place_rises most s t e less h =
    let k = far most e.0 s h in
    let some : 0 < length (take e.0 s) = omega (arith, length-take e.0 s, ap length e.1, length-drop e.0 s) in
    subst (λ t. place_in most s < place_in most t) (sym e.1) (omega (arith, k, some))

-- ## How far a cursor stands

cursor_placed : (at : Cursor) → ArePlaced (length (text_of at)) (rest at)
unfolding rest
cursor_placed at = rest_placed (length at.text.now) at.last at.place at.line (drop at.place at.text.now) (omega (arith, length-drop at.place at.text.now, at.within))

placed_in : (text : List ℕ) (at : Cursor) → text_of at ≡ text → ArePlaced (length text) (rest at)
placed_in text at e = subst (λ t. ArePlaced (length t) (rest at)) e (cursor_placed at)

-- a text has at most 32 MiB
pub place_small : (text : List ℕ) (at : Cursor) → text_of at ≡ text → place_in (length text) (rest at) ≤ 33554433
place_small text at e = let n : length (text_of at) ≡ length text = ap length e in let k = place_most (length text) (rest at) (placed_in text at e) in omega (arith, n, k, at.small)

pub further_end : (text : List ℕ) (at : Cursor) (s : List Spot) → text_of at ≡ text → EndOf (rest at) s → IsFurther text (rest at) s
further_end text at s e end = place_end (length text) (rest at) s end (placed_in text at e)

pub further_blanks : (text : List ℕ) (at : Cursor) (s : List Spot) → text_of at ≡ text → s ≡ after_blanks (rest at) → IsFurther text (rest at) s
further_blanks text at s e blanks = further_end text at s e (let end = end_after_blanks (rest at) in (end.0, blanks ∙ end.1))

pub further_one : (text : List ℕ) (at : Cursor) (s : List Spot) → text_of at ≡ text → s ≡ drop 1 (rest at) → IsFurther text (rest at) s
further_one text at s e next = further_end text at s e (1, next)

-- a token that is passed, or the blanks before a newline
pub further_passed : (text : List ℕ) (at : Cursor) (passed : Bool) (s : List Spot) → text_of at ≡ text → PassesToken (text_of at) (rest at) passed s → IsFurther text (rest at) s
further_passed text at false s e h = further_blanks text at s e h.1
further_passed text at true s e h =
    let end = next_end_whole (text_of at) [] (rest at) h.0 (h.1 [] wants_header-nil) in further_end text at s e (end.0, h.2 ∙ end.1)

-- what is taken by a token that stands where the blanks have been passed
pub token_takes : (text : List ℕ) (before : List Tok) (s left : List Spot) (l : Lexeme) (from : Cursor) → text_of from ≡ text → rest from ≡ after_blanks s → next_token text before s ≡ Some l → left ≡ l.left
    → TakesBytes text (length l.text) (rest from) left
token_takes text before s left l from e blanks found is =
    let placed = subst (ArePlaced (length text)) blanks (placed_in text from e) in
    let fits = next_fits text before s l placed found in
    let here = same_token text before s ∙ found in
    let rises = place_rises (length text) (after_blanks s) l.left (next_end text before s l found) (next_takes text before (after_blanks s) l here) placed in
    subst (λ t. TakesBytes text (length l.text) (rest from) t) (sym is) (subst (λ t. TakesBytes text (length l.text) t l.left) (sym blanks) (rises, fits))

-- ## The lists

pub room_later : (b : OpenLines) (text : List ℕ) (s t : List Spot) → HasRoom b text s → IsFurther text s t → HasRoom b text t
room_later b text s t room h = record { bytes = omega (arith, room.bytes, h); toks = omega (arith, room.toks, h) }

pub room_along : (b : OpenLines) (text text' : List ℕ) (s t : List Spot) → text' ≡ text → HasRoom b text s → IsFurther text' s t → HasRoom b text t
room_along b text text' s t e room h = room_later b text s t room (subst (λ x. IsFurther x s t) e h)

pub room_pushed : (b after : OpenLines) (text more : List ℕ) (r : TokRecord) (s t : List Spot) → HasRoom b text s → TakesBytes text (length more) s t
    → after.spelled.items ≡ b.spelled.items ++ more → after.toks.items ≡ b.toks.items ++ r ∷ [] → HasRoom after text t
room_pushed b after text more r s t room h e f = record {
  bytes = omega (arith, room.bytes, h.1, ap length e, length-append b.spelled.items more);
  toks = omega (arith, room.toks, h.0, ap length f, length-append b.toks.items (r ∷ []));
}

pub room_stays : (b after : OpenLines) (text : List ℕ) (s : List Spot) → HasRoom b text s → length after.spelled.items ≤ length b.spelled.items → length after.toks.items ≤ length b.toks.items → HasRoom after text s
room_stays b after text s room e f = record { bytes = omega (arith, room.bytes, e); toks = omega (arith, room.toks, f) }
