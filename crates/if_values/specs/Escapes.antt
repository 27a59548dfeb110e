-- What the code reads of a character.
use Rattle.std.specs.Prelude.{ℕ, ◌==◌, if◌then◌else◌, List, drop, Option}
use Rattle.std.specs.List.{prefix_len}
use Rattle.scan_model.specs.Spelling.{first}
use Rattle.scan_model.specs.Literals.{is_hex_digit, digits_escape, octal_len}
use Rattle.if_values.specs.declared.escapes.Found.{Found}

-- a value, and what follows its spelling
abbrev pub found_of : Found → ℕ × List ℕ
found_of f = (f.value, f.after.now)

-- an escape that isn't one of the simple ones
abbrev pub numeric_escape : List ℕ → Option (ℕ × List ℕ)
numeric_escape s =
    let hexadecimal = digits_escape 16 (prefix_len is_hex_digit (drop 1 s)) (drop 1 s) in
    let octal = digits_escape 8 (octal_len s) s in
    if first s == 120 then hexadecimal else octal
