-- The value of a condition's syntax tree, of 64 bits ([cpp.cond], [expr.const]).
use Rattle.std.specs.Prelude.{ℕ, ◌+◌, ◌-◌, ◌*◌, ◌/◌, ◌%◌, ◌^◌, bit_and, bit_or, bit_xor, Bool, true, false, not, ◌&&◌, ◌||◌, ◌==◌, nat_lt, nat_le, if◌then◌else◌}
use Rattle.std.specs.declared.result.Result.{Result}
use Rattle.std.specs.declared.result.Result.TheVariants.{Ok, Err}
use Rattle.scan_model.specs.declared.condition.CondValue.{CondValue}
use Rattle.scan_model.specs.declared.condition.CondFault.{CondFault}
use Rattle.scan_model.specs.declared.condition.CondFault.TheVariants.{DivisionByZero, BadShift}
use Rattle.scan_model.specs.ConditionTree.{signed_value, Equal, ShiftLeft, Prefix, Less, Binary, AndAlso, ShiftRight, Negative, Unary, Literal, Over, BitOr, Infix, Not, AtMost, AtLeast, Times, OrElse, Positive, Unequal, BitAnd, Plus, Complement, Modulo, Tree, Choice, Greater, Minus, BitXor}

abbrev pub modulus : ℕ
modulus = 2 ^ 64

abbrev pub is_negative : CondValue → Bool
is_negative v = not v.unsigned && nat_le (2 ^ 63) v.bits

-- the opposite number's bits
abbrev pub negated : ℕ → ℕ
negated n = (modulus - n) % modulus

-- the amount without its sign
abbrev pub magnitude : CondValue → ℕ
magnitude v = if is_negative v then negated v.bits else v.bits

abbrev pub of_bool : Bool → CondValue
of_bool b = signed_value (if b then 1 else 0)

abbrev pub is_nonzero : CondValue → Bool
is_nonzero v = not (v.bits == 0)

-- the same bits at the common type of two operands
abbrev pub at_type : Bool → CondValue → CondValue
at_type unsigned v = record v { unsigned = unsigned }

-- of two values of one type
abbrev pub is_less : CondValue → CondValue → Bool
is_less a b = if is_negative a then (if is_negative b then nat_lt a.bits b.bits else true) else (if is_negative b then false else nat_lt a.bits b.bits)

abbrev pub with_sign : Bool → ℕ → ℕ
with_sign negative n = if negative then negated n else n

-- truncated toward zero, and the rest, which has the sign of the first
abbrev pub quotient : CondValue → CondValue → ℕ
quotient a b = with_sign (if is_negative a then not (is_negative b) else is_negative b) (magnitude a / magnitude b)

abbrev pub remainder : CondValue → CondValue → ℕ
remainder a b = with_sign (is_negative a) (magnitude a % magnitude b)

abbrev pub shifted_right : CondValue → ℕ → ℕ
shifted_right a n = if is_negative a then modulus - 1 - (modulus - 1 - a.bits) / 2 ^ n else a.bits / 2 ^ n

abbrev pub shifted : CondValue → CondValue → ℕ → Result CondValue CondFault
shifted a b bits = if is_negative b || nat_le 64 b.bits then Err BadShift else Ok (record a { bits = bits })

abbrev pub divided : CondValue → ℕ → Bool → Result CondValue CondFault
divided b bits unsigned = if b.bits == 0 then Err DivisionByZero else Ok (record { bits = bits; unsigned = unsigned })

abbrev pub bits_at : Bool → ℕ → Result CondValue CondFault
bits_at unsigned bits = Ok (record { bits = bits; unsigned = unsigned })

-- of two values, of which one is unsigned or none is
abbrev pub infix_value : Binary → Bool → CondValue → CondValue → Result CondValue CondFault
infix_value OrElse u a b = Ok (of_bool (is_nonzero a || is_nonzero b))
infix_value AndAlso u a b = Ok (of_bool (is_nonzero a && is_nonzero b))
infix_value BitOr u a b = bits_at u (bit_or a.bits b.bits)
infix_value BitXor u a b = bits_at u (bit_xor a.bits b.bits)
infix_value BitAnd u a b = bits_at u (bit_and a.bits b.bits)
infix_value Equal u a b = Ok (of_bool (a.bits == b.bits))
infix_value Unequal u a b = Ok (of_bool (not (a.bits == b.bits)))
infix_value Less u a b = Ok (of_bool (is_less (at_type u a) (at_type u b)))
infix_value Greater u a b = Ok (of_bool (is_less (at_type u b) (at_type u a)))
infix_value AtMost u a b = Ok (of_bool (not (is_less (at_type u b) (at_type u a))))
infix_value AtLeast u a b = Ok (of_bool (not (is_less (at_type u a) (at_type u b))))
infix_value ShiftLeft u a b = shifted a b (a.bits * 2 ^ (b.bits % 64) % modulus)
infix_value ShiftRight u a b = shifted a b (shifted_right a (b.bits % 64))
infix_value Plus u a b = bits_at u ((a.bits + b.bits) % modulus)
infix_value Minus u a b = bits_at u ((a.bits + negated b.bits) % modulus)
infix_value Times u a b = bits_at u (a.bits * b.bits % modulus)
infix_value Over u a b = divided b (quotient (at_type u a) (at_type u b)) u
infix_value Modulo u a b = divided b (remainder (at_type u a) (at_type u b)) u

abbrev pub prefix_value : Unary → CondValue → CondValue
prefix_value Not v = of_bool (not (is_nonzero v))
prefix_value Complement v = record v { bits = modulus - 1 - v.bits }
prefix_value Negative v = record v { bits = negated v.bits }
prefix_value Positive v = v

abbrev pub infix_unsigned : Binary → Bool → Bool → Bool
infix_unsigned BitOr u w = u || w
infix_unsigned BitXor u w = u || w
infix_unsigned BitAnd u w = u || w
infix_unsigned ShiftLeft u w = u
infix_unsigned ShiftRight u w = u
infix_unsigned Plus u w = u || w
infix_unsigned Minus u w = u || w
infix_unsigned Times u w = u || w
infix_unsigned Over u w = u || w
infix_unsigned Modulo u w = u || w
infix_unsigned op u w = false

abbrev pub prefix_unsigned : Unary → Bool → Bool
prefix_unsigned Not u = false
prefix_unsigned op u = u

-- the type of a tree, evaluated or not
abbrev pub is_unsigned : Tree → Bool
is_unsigned (Literal v) = v.unsigned
is_unsigned (Prefix op t) = prefix_unsigned op (is_unsigned t)
is_unsigned (Infix op t r) = infix_unsigned op (is_unsigned t) (is_unsigned r)
is_unsigned (Choice c t r) = is_unsigned t || is_unsigned r

abbrev pub then_value : (CondValue → Result CondValue CondFault) → Result CondValue CondFault → Result CondValue CondFault
then_value further (Ok v) = further v
then_value further (Err fault) = Err fault

-- the right operand, where it is evaluated
abbrev pub infix_of : Binary → Result CondValue CondFault → CondValue → Result CondValue CondFault
infix_of OrElse right a = if is_nonzero a then Ok (of_bool true) else then_value (infix_value OrElse false a) right
infix_of AndAlso right a = if is_nonzero a then then_value (infix_value AndAlso false a) right else Ok (of_bool false)
infix_of op right a = then_value (λ b. infix_value op (a.unsigned || b.unsigned) a b) right

-- from left to right, what isn't needed left out
abbrev pub evaluate : Tree → Result CondValue CondFault
evaluate (Literal v) = Ok v
evaluate (Prefix op t) = then_value (λ v. Ok (prefix_value op v)) (evaluate t)
evaluate (Infix op t r) = then_value (infix_of op (evaluate r)) (evaluate t)
evaluate (Choice c t r) =
    then_value (λ v. then_value (λ w. Ok (at_type (is_unsigned t || is_unsigned r) w)) (if is_nonzero v then evaluate t else evaluate r)) (evaluate c)
