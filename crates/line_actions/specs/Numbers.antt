-- What the tokens of a `#line` ask for ([cpp.line]).
use Rattle.std.specs.Prelude.{ℕ, ◌&&◌, nat_le, if◌then◌else◌, List, [], ◌∷◌, Option, Some, None}
use Rattle.std.specs.Option.{option_map, option_map_or, option_and_then}
use Rattle.std.specs.List.{list_all}
use Rattle.std.specs.Char.{is_ascii_digit}
use Rattle.scan_model.specs.declared.token.Kind.TheVariants.{Number}
use Rattle.scan_model.specs.declared.token.Tok.{Tok}
use Rattle.scan_model.specs.TokenTests.{is_of, is_plain_string}
use Rattle.scan_model.specs.Literals.{number_of}
use Rattle.line_actions.specs.declared.line_numbers.LineChange.{LineChange}

abbrev pub small_number : List ℕ → Option ℕ
small_number text = if list_all is_ascii_digit text && nat_le (number_of 10 text) 2147483647 then Some (number_of 10 text) else None

abbrev pub number_in : Tok → Option ℕ
number_in t = if is_of Number t then small_number t.text else None

-- the next line's number, and the string of the file's name, where it changes
abbrev pub with_string : Tok → ℕ → Option (ℕ × Option (List ℕ))
with_string u n = if is_plain_string u then Some (n, Some u.text) else None

abbrev pub change_of : List Tok → Option (ℕ × Option (List ℕ))
change_of [] = None
change_of (t ∷ []) = option_map (λ n. (n, None)) (number_in t)
change_of (t ∷ u ∷ ts) = option_and_then (with_string u) (number_in t)

abbrev pub change_seen : LineChange → ℕ × Option (List ℕ)
change_seen change = (change.number, option_map (λ text. text.now) change.file)

-- the string of the file's name after that, where it was this before
abbrev pub file_after : List ℕ → ℕ × Option (List ℕ) → List ℕ
file_after file change = option_map_or (λ text. text) change.1 file
