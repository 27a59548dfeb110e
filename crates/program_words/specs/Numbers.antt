-- The number that a text writes.
use Rattle.std.specs.Prelude.{ℕ, Bool, ◌&&◌, ◌^◌, List, length, nat_lt, if◌then◌else◌}
use Rattle.std.specs.List.{list_all}
use Rattle.std.specs.Char.{digit_value}
use Rattle.std.specs.Str.Parse.{digits_value, without_leading_plus}

-- digits alone, at least one, of a number below 2 ^ 32
abbrev pub is_number : List ℕ → Bool
is_number digits = nat_lt 0 (length digits) && list_all (λ d. nat_lt (digit_value d) 10) digits && nat_lt (digits_value 10 digits) (2 ^ 32)

-- the number that the digits write, with a `+` or none before them; 0 where the text is none below 2 ^ 32
abbrev pub number_or_zero : List ℕ → ℕ
number_or_zero text =
    let digits = without_leading_plus text in
    if is_number digits then digits_value 10 digits else 0
