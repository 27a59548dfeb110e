-- Where the bytes that show after phases 1 and 2 of translation stand in the text.
use Rattle.std.specs.Prelude.{◌≡◌, ◌↔◌, Bool, false, ◌-◌, ◌<◌, ◌≤◌, ℕ, ◌+◌, ◌||◌, ◌==◌, if◌then◌else◌, List, slice_index, take, drop, length, count_by}
use Rattle.std.specs.List.{All, AllPairs, Any}
use Rattle.scan_model.specs.Spliced.{Spot, is_hidden, at_newline, mark_len, shown, spliced}

-- how many newlines of the text end before the place
abbrev pub newlines_before : List ℕ → ℕ → ℕ
newlines_before text place = count_by (λ c. c == 10) (take place text)

-- LF where a newline begins, LF or CR LF, and at the text's end; any other byte as it is written
abbrev pub byte_shown : List ℕ → ℕ → ℕ
byte_shown text place = if at_newline (drop place text) || place == length text then 10 else slice_index text place

-- The spot is that of a byte of the text, or of the LF that is added at its end.
pub record StandsIn (text : List ℕ) (spot : Spot) : Type 0 where
  pub within : spot.place ≤ length text
  pub byte : spot.byte ≡ byte_shown text spot.place
  -- a line's number is one more than the newlines before it
  pub line : spot.line ≡ newlines_before text spot.place + 1

-- the spots stand in the text from the place on, each behind the one before it
pub record StandFrom (text : List ℕ) (place : ℕ) (spots : List Spot) : Type 0 where
  pub each : All (StandsIn text) spots
  pub from : All (λ spot. place ≤ spot.place) spots
  pub rise : AllPairs (λ a b. a.place < b.place) spots

-- so does what shows from any place on, whatever showed last and stands before it
abbrev pub ShownStands : Type 0
ShownStands = (text : List ℕ) (last before place : ℕ) → place ≤ length text →
    StandFrom text place (shown last before place (newlines_before text place + 1) (drop place text))

-- so does a whole text, behind its byte order mark
abbrev pub SplicedStands : Type 0
SplicedStands = (text : List ℕ) → StandFrom text (mark_len text) (spliced text)

-- the byte at the place is the backslash of a splice or in its newline, or the LF of CR LF
abbrev pub is_hidden_at : List ℕ → ℕ → Bool
is_hidden_at text place = is_hidden (slice_index text (place - 1)) (slice_index text place) (drop (place + 1) text)

-- behind the byte order mark exactly the other bytes show
abbrev pub OthersShow : Type 0
OthersShow = (text : List ℕ) (place : ℕ) → mark_len text ≤ place → place < length text →
    Any (λ spot. spot.place ≡ place) (spliced text) ↔ (is_hidden_at text place ≡ false)
