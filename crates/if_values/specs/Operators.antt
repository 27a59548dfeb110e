-- The operators that the code names, as the definitions name them.
use Rattle.if_values.specs.declared.operators.Binary as binary
use Rattle.if_values.specs.declared.operators.Binary.TheVariants as infix_case
use Rattle.if_values.specs.declared.operators.Unary as unary
use Rattle.if_values.specs.declared.operators.Unary.TheVariants as prefix_case
use Rattle.scan_model.specs.ConditionTree.{Binary, OrElse, AndAlso, BitOr, BitXor, BitAnd, Equal, Unequal, Less, Greater, AtMost, AtLeast, ShiftLeft, ShiftRight, Plus, Minus, Times, Over, Modulo, Unary, Not, Complement, Negative, Positive}

abbrev pub binary_of : binary.Binary → Binary
binary_of infix_case.OrElse = OrElse
binary_of infix_case.AndAlso = AndAlso
binary_of infix_case.BitOr = BitOr
binary_of infix_case.BitXor = BitXor
binary_of infix_case.BitAnd = BitAnd
binary_of infix_case.Equal = Equal
binary_of infix_case.Unequal = Unequal
binary_of infix_case.Less = Less
binary_of infix_case.Greater = Greater
binary_of infix_case.AtMost = AtMost
binary_of infix_case.AtLeast = AtLeast
binary_of infix_case.ShiftLeft = ShiftLeft
binary_of infix_case.ShiftRight = ShiftRight
binary_of infix_case.Plus = Plus
binary_of infix_case.Minus = Minus
binary_of infix_case.Times = Times
binary_of infix_case.Over = Over
binary_of infix_case.Modulo = Modulo

abbrev pub unary_of : unary.Unary → Unary
unary_of prefix_case.Not = Not
unary_of prefix_case.Complement = Complement
unary_of prefix_case.Negative = Negative
unary_of prefix_case.Positive = Positive
