-- Numbers that were drawn, and tests of them.
use Rattle.std.proofs.Common.{◌≡◌, ◌≢◌, ℕ, ◌+◌, ◌<◌, ◌≤◌, true, false, ◌==◌, ◌&&◌, nat_lt, arith}
use Rattle.std.specs.Prelude.{min}
use Rattle.std.proofs.lemmas.Bool.Decides.{nat_tests}
use Rattle.cache_machine.specs.Numbers.{one_if}

pub if_false : (a b : ℕ) → a ≢ b → (a == b) ≡ false
if_false a b differ = grind (arith, nat_tests)

pub if_true : (a b : ℕ) → a ≡ b → (a == b) ≡ true
if_true a b e = grind (arith, nat_tests)

pub draw_number : (next n len : ℕ) → nat_lt next len ≡ true → one_if (next == n) + one_if (nat_lt n next && nat_lt n len) ≡ one_if (nat_lt n (next + 1) && nat_lt n len)
draw_number next n len h = grind (arith, nat_tests)

pub draw_none : (next n len : ℕ) → nat_lt next len ≡ false → one_if (nat_lt n next && nat_lt n len) ≡ one_if (nat_lt n (next + 1) && nat_lt n len)
draw_none next n len h = grind (arith, nat_tests)

pub drawn_within : (next n len : ℕ) → 1 ≤ one_if (nat_lt n next && nat_lt n len) → n < len
drawn_within next n len h = grind (arith, nat_tests)

pub drawn_at_most : (next n len : ℕ) → one_if (nat_lt n next && nat_lt n len) ≤ 1
drawn_at_most next n len = grind (arith, nat_tests)

pub not_drawn : (n len : ℕ) → one_if (nat_lt n 0 && nat_lt n len) ≡ 0
not_drawn n len = grind (arith, nat_tests)

pub drawn_number : (next n len : ℕ) → n < next → n < len → one_if (nat_lt n next && nat_lt n len) ≡ 1
drawn_number next n len h k = grind (arith, nat_tests)

-- a job's number that is drawn leaves no worker over
pub draw_not_over : (next len : ℕ) → nat_lt next len ≡ true → next + min (next + 1) len ≡ next + 1 + min next len
draw_not_over next len h = grind (arith, nat_tests)

-- a number past the last job leaves one more
pub draw_over : (next len : ℕ) → nat_lt next len ≡ false → 1 + next + min (next + 1) len ≡ next + 1 + min next len
draw_over next len h = grind (arith, nat_tests)

-- where some are over, each job's number is drawn
pub drawn_past : (next len over n : ℕ) → min next len + over ≡ next → 1 ≤ over → n < len → n < next
drawn_past next len over n h k below = grind (arith, nat_tests)
