-- The searches in a table of words.
use Rattle.std.specs.Prelude.{ℕ, Bool, true, ◌==◌, nat_eq, nat_le, if◌then◌else◌, List, [], ◌∷◌, map, length, Option, Some, None}
use Rattle.std.specs.List.{starts_with, filter}
use lib.Pointwise.{pointwise}
use Rattle.word_table.specs.declared.search.Row.{Row}

-- a row's word and its value, wherever the word lies in memory
abbrev pub Entry : Type 0
Entry = List ℕ × ℕ

abbrev pub entry : Row → Entry
entry row = (row.text.now, row.value)

abbrev pub entries : List Row → List Entry
entries rows = map entry rows

abbrev pub value_of : Entry → ℕ
value_of e = e.1

abbrev pub has_word : List ℕ → Entry → Bool
has_word word e = pointwise nat_eq e.0 word

-- an entry's value and its length
abbrev pub match_of : Entry → ℕ × ℕ
match_of e = (e.1, length e.0)

-- of an earlier and a later match, each a value and a length, the longer one, or the earlier where they are as long
abbrev pub longer : Option (ℕ × ℕ) → Option (ℕ × ℕ) → Option (ℕ × ℕ)
longer None later = later
longer (Some a) None = Some a
longer (Some a) (Some b) = if nat_le b.1 a.1 then Some a else Some b

-- value and length of the first of the longest entries whose word is a prefix of the text
abbrev pub longest_row : List ℕ → List Entry → Option (ℕ × ℕ)
longest_row text [] = None
longest_row text (e ∷ es) = let later = longest_row text es in
    if starts_with nat_eq text e.0 then longer (Some (match_of e)) later else later

-- the entry's word begins with the byte, or is empty
abbrev pub starts_as : ℕ → List ℕ → Bool
starts_as c [] = true
starts_as c (d ∷ ds) = d == c

abbrev pub begins_as : ℕ → Entry → Bool
begins_as c e = starts_as c e.0

-- of these entries those that begin with the byte, where it is one of the first bytes that are given
abbrev pub rows_among : List Entry → List ℕ → ℕ → List Entry
rows_among es [] c = []
rows_among es (k ∷ ks) c = let later = rows_among es ks c in if c == k then filter (begins_as k) es else later
