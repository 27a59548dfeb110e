-- The text after phases 1 and 2 of translation ([lex.phases]).
use Rattle.std.specs.Prelude.{ℕ, ◌+◌, Bool, ◌&&◌, ◌||◌, ◌==◌, nat_eq, if◌then◌else◌, List, [], ◌∷◌, slice_index, drop, length, Option, Some, None}
use Rattle.std.specs.List.{starts_with}

-- a byte that shows, its place in the text, and its physical line
pub record Spot : Type 0 where
  pub byte : ℕ
  pub place : ℕ
  pub line : ℕ

-- LF or CR LF stands here
abbrev pub at_newline : List ℕ → Bool
at_newline text = slice_index text 0 == 10 || (slice_index text 0 == 13 && slice_index text 1 == 10)

-- The byte c, between the byte `before` and the text `after`, doesn't show: it is the backslash of a splice, or in
-- the newline of a splice, or the LF of CR LF.
abbrev pub is_hidden : ℕ → ℕ → List ℕ → Bool
is_hidden before c after =
    (c == 92 && at_newline after) || (before == 92 && at_newline (c ∷ after)) || (before == 13 && c == 10)

-- What shows of the text from a place and a line on. The byte before it is `before`, and the last byte that showed is
-- `last`: where that isn't LF at the end, an LF shows there.
unfoldable pub shown : ℕ → ℕ → ℕ → ℕ → List ℕ → List Spot
shown last before place line [] = if last == 10 then [] else record { byte = 10; place = place; line = line } ∷ []
shown last before place line (c ∷ after) =
    let byte = if at_newline (c ∷ after) then 10 else c in
    let below = if c == 10 then line + 1 else line in
    let hidden = shown last c (place + 1) below after in
    let next = shown byte c (place + 1) below after in
    if is_hidden before c after then hidden
    else record { byte = byte; place = place; line = line } ∷ next

-- how many bytes the byte order mark takes
abbrev pub mark_len : List ℕ → ℕ
mark_len text = if starts_with nat_eq text (239 ∷ 187 ∷ 191 ∷ []) then 3 else 0

-- the text after phases 1 and 2
unfoldable pub spliced : List ℕ → List Spot
spliced text = shown 0 0 (mark_len text) 1 (drop (mark_len text) text)

-- the line of the last spot, or the given one where there is none
abbrev pub last_line : ℕ → List Spot → ℕ
last_line line [] = line
last_line line (spot ∷ spots) = last_line spot.line spots

-- what a reader of the text sees of the spots that are left: the line of the next byte, and at the end that of the last
abbrev pub line_at : List ℕ → List Spot → ℕ
line_at text [] = last_line 1 (spliced text)
line_at text (spot ∷ spots) = spot.line

-- the place of the next byte, and at the end the length of the text
abbrev pub place_at : List ℕ → List Spot → ℕ
place_at text [] = length text
place_at text (spot ∷ spots) = spot.place

abbrev pub byte_at : List Spot → Option ℕ
byte_at [] = None
byte_at (spot ∷ spots) = Some spot.byte
