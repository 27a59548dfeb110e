-- What the code reads of a character literal.
use Rattle.std.specs.Prelude.{ℕ, ◌==◌, if◌then◌else◌, List, take, length, Option}
use Rattle.scan_model.specs.Literals.{characters_up_to, plain_char, wide_char}
use Rattle.if_values.specs.declared.characters.Values.{Values}

-- the characters up to the quote that ends the text
abbrev pub characters : List ℕ → Option (List ℕ)
characters s = characters_up_to (length s) s

-- the values that were read
abbrev pub values : Values → List ℕ
values found = take found.count found.bytes

-- the bits of a literal whose encoding's prefix has this length
abbrev pub literal_bits : ℕ → List ℕ → Option ℕ
literal_bits prefix cs = if prefix == 0 then plain_char cs else wide_char cs
