-- Bytes that show as they are written.
use Rattle.std.specs.Prelude.{◌≡◌, ◌<◌, ℕ, Bool, true, not, ◌||◌, ◌==◌, List, slice_index, drop, length, count_by}
use Rattle.scan_model.specs.Spliced.{Spot, place_at}

-- neither a backslash nor in a newline, so that phase 2 leaves the byte as it is
abbrev pub shows_itself : ℕ → Bool
shows_itself c = not (c == 92 || c == 13 || c == 10)

-- neither a backslash nor CR: the byte shows as it is written, and ends a line where it is LF
abbrev pub shows_or_ends : ℕ → Bool
shows_or_ends c = not (c == 92 || c == 13)

-- how many lines the bytes end
abbrev pub newlines : List ℕ → ℕ
newlines s = count_by (λ c. c == 10) s

-- the text as it is written from the place of the next byte on
abbrev pub ahead_of : List ℕ → List Spot → List ℕ
ahead_of text spots = drop (place_at text spots) text

-- the byte that comes first shows as it is written, and another one follows it that is no backslash
pub record BeginsPlain (text : List ℕ) : Type 0 where
  pub some : 1 < length text
  pub plain : shows_itself (slice_index text 0) ≡ true
  pub next : slice_index text 1 ≡ 92 → ⊥
