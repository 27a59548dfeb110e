-- The limits that several crates speak of.
use Rattle.std.specs.Prelude.{ℕ}

-- the bytes of one file, of one word of the program's, or of one setting
abbrev pub file_limit : ℕ
file_limit = 33554432
