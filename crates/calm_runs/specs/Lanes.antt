-- How a byte that isn't calm is marked in its lane.
use Rattle.std.specs.Prelude.{ℕ, ◌==◌, if◌then◌else◌, bit_or}

-- all bits where it is the byte
abbrev pub equal_to : ℕ → ℕ → ℕ
equal_to byte c = if c == byte then 255 else 0

-- the top bit is set where the byte isn't calm
abbrev pub marked : ℕ → ℕ
marked c = bit_or (bit_or (bit_or (bit_or (bit_or (bit_or c (equal_to 10 c)) (equal_to 13 c)) (equal_to 34 c)) (equal_to 39 c)) (equal_to 47 c)) (equal_to 92 c)
