-- The values of literals in conditions ([lex.icon], [lex.ccon]).
use Rattle.std.specs.Prelude.{ℕ, zero, suc, ◌+◌, ◌-◌, ◌*◌, ◌^◌, Bool, false, not, ◌&&◌, ◌||◌, ◌==◌, nat_lt, nat_le, if◌then◌else◌, List, [], ◌∷◌, take, drop, length, slice_index, Option, Some, None}
use Rattle.std.specs.Option.{option_map, option_map_or, option_and_then}
use Rattle.std.specs.List.{prefix_len, filter, fold}
use Rattle.std.specs.Char.{is_ascii_digit}
use Rattle.scan_model.specs.declared.condition.CondValue.{CondValue}
use Rattle.scan_model.specs.Spelling.{first, is_one_of, encoding_len}

-- ## Integers

abbrev pub digit_value : ℕ → ℕ
digit_value c = if is_ascii_digit c then c - 48 else if nat_le 97 c then c - 87 else c - 55

abbrev pub is_hex_digit : ℕ → Bool
is_hex_digit c = is_ascii_digit c || (nat_le 97 c && nat_le c 102) || (nat_le 65 c && nat_le c 70)

abbrev pub is_digit : ℕ → ℕ → Bool
is_digit base c = is_hex_digit c && nat_lt (digit_value c) base

-- the length of the digits in front, with single `'` between two of them
abbrev pub digits_len : ℕ → List ℕ → ℕ
digits_len base [] = 0
digits_len base (c ∷ s) = let further = 1 + digits_len base s in
    if is_digit base c then further else if c == 39 && is_digit base (first s) then further else 0

abbrev pub number_of : ℕ → List ℕ → ℕ
number_of base s = fold (λ n c. n * base + digit_value c) 0 (filter (is_digit base) s)

abbrev pub sizes : List ℕ → Bool
sizes s = length s == 0 || is_one_of ("l" ∷ "L" ∷ "ll" ∷ "LL" ∷ "z" ∷ "Z" ∷ []) s

abbrev pub is_u : ℕ → Bool
is_u c = c == 117 || c == 85

abbrev pub is_u_suffix : List ℕ → Bool
is_u_suffix s = (is_u (first s) && sizes (drop 1 s)) || (is_u (slice_index s (length s - 1)) && sizes (take (length s - 1) s))

abbrev pub integer_value : ℕ → List ℕ → Option CondValue
integer_value n suffix =
    let unsigned = is_u_suffix suffix || nat_le (2 ^ 63) n in
    if nat_lt n (2 ^ 64) && (sizes suffix || is_u_suffix suffix) then Some (record { bits = n; unsigned = unsigned }) else None

-- digits of the base, one at least, and a suffix
abbrev pub integer_in : ℕ → List ℕ → Option CondValue
integer_in base s = let n = digits_len base s in
    let value = integer_value (number_of base (take n s)) (drop n s) in
    if is_digit base (first s) then value else None

-- the value of a Number, or none for a bad one
unfoldable pub integer : List ℕ → Option CondValue
integer s = let second = slice_index s 1 in
    let hexadecimal = integer_in 16 (drop 2 s) in
    let binary = integer_in 2 (drop 2 s) in
    let octal = integer_in 8 s in
    let decimal = integer_in 10 s in
    if not (first s == 48) then decimal
    else if second == 120 || second == 88 then hexadecimal
    else if second == 98 || second == 66 then binary
    else octal

-- ## Characters: `'` is 39 and `\` is 92

-- a value up to 255, and what follows its spelling
abbrev pub up_to_255 : ℕ → List ℕ → Option (ℕ × List ℕ)
up_to_255 n s = if nat_le n 255 then Some (n, s) else None

-- n digits of the base
abbrev pub digits_escape : ℕ → ℕ → List ℕ → Option (ℕ × List ℕ)
digits_escape base n s = if n == 0 then None else up_to_255 (number_of base (take n s)) (drop n s)

-- the length of the octal digits in front, at most three
abbrev pub octal_len : List ℕ → ℕ
octal_len s = prefix_len (is_digit 8) (take 3 s)

abbrev pub simple_escape : ℕ → Option ℕ
simple_escape c =
    if c == 39 || c == 34 || c == 63 || c == 92 then Some c
    else if c == 97 then Some 7 else if c == 98 then Some 8 else if c == 102 then Some 12 else if c == 110 then Some 10
    else if c == 114 then Some 13 else if c == 116 then Some 9 else if c == 118 then Some 11 else None

-- what follows a backslash
abbrev pub escape : List ℕ → Option (ℕ × List ℕ)
escape s =
    let hexadecimal = digits_escape 16 (prefix_len is_hex_digit (drop 1 s)) (drop 1 s) in
    let octal = digits_escape 8 (octal_len s) s in
    option_map_or (λ c. Some (c, drop 1 s)) (simple_escape (first s)) (if first s == 120 then hexadecimal else octal)

-- the character that begins the text, and what follows it
abbrev pub character : List ℕ → Option (ℕ × List ℕ)
character s = let escaped = escape (drop 1 s) in
    if first s == 92 then escaped else if nat_lt (first s) 128 then Some (first s, drop 1 s) else None

-- The characters up to the `'`, which ends the text; each takes a byte at least.
abbrev pub characters_up_to : ℕ → List ℕ → Option (List ℕ)
characters_up_to zero s = None
characters_up_to (suc n) s =
    let further = option_and_then (λ found. option_map (found.0 ∷◌) (characters_up_to n found.1)) (character s) in
    if first s == 39 then (if length s == 1 then Some [] else None) else further

-- a number of k bits in two's complement, as one of 64 bits
abbrev pub extended : ℕ → ℕ → ℕ
extended k n = if nat_lt n (2 ^ (k - 1)) then n else (2 ^ 64 - 2 ^ k) + n

-- of a literal with no prefix
abbrev pub plain_char : List ℕ → Option ℕ
plain_char [] = None
plain_char (c ∷ []) = Some (extended 8 c)
plain_char cs = if nat_le (length cs) 4 then Some (extended 32 (fold (λ n c. n * 256 + c) 0 cs)) else None

-- of one with a prefix
abbrev pub wide_char : List ℕ → Option ℕ
wide_char (c ∷ []) = Some c
wide_char cs = None

-- the value of a Char, or none for a bad one
unfoldable pub char_value : List ℕ → Option CondValue
char_value s = let n = encoding_len s in
    option_map (λ bits. record { bits = bits; unsigned = false })
    (option_and_then (λ cs. if n == 0 then plain_char cs else wide_char cs) (characters_up_to (length s) (drop (n + 1) s)))
