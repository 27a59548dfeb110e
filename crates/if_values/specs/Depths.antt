-- How deep a condition is, token by token.
use Rattle.std.specs.Prelude.{ℕ, ◌+◌, Bool, ◌||◌, nat_lt, if◌then◌else◌, [], ◌∷◌, Option}
use Rattle.scan_model.specs.declared.token.Tok.{Tok}
use Rattle.scan_model.specs.TokenTests.{is_sign}
use Rattle.scan_model.specs.Condition.{is_unary}

abbrev pub row_after : Option Tok → Tok → ℕ → ℕ
row_after before t row = if is_unary before t then row + 1 else 0

abbrev pub questions_after : Tok → ℕ → ℕ
questions_after t questions = if is_sign ("?" ∷ []) t then questions + 1 else questions

abbrev pub is_over : ℕ → ℕ → ℕ → Bool
is_over opened row questions = nat_lt 256 opened || nat_lt 256 row || nat_lt 256 questions
