-- The levels of the binary operators, numbered from the loosest.
use Rattle.std.specs.Prelude.{ℕ, List, drop, length, map, replicate, set, Option, Some, None}
use Rattle.scan_model.specs.declared.token.Tok.{Tok}
use Rattle.scan_model.specs.ConditionTree.{Binary, OrElse, AndAlso, BitOr, BitXor, BitAnd, Equal, Unequal, Less, Greater, AtMost, AtLeast, ShiftLeft, ShiftRight, Plus, Minus, Times, Over, Modulo, Spelt, levels, operator_of}

-- how many levels are looser than the operator's
abbrev pub level_of : Binary → ℕ
level_of OrElse = 0
level_of AndAlso = 1
level_of BitOr = 2
level_of BitXor = 3
level_of BitAnd = 4
level_of Equal = 5
level_of Unequal = 5
level_of Less = 6
level_of Greater = 6
level_of AtMost = 6
level_of AtLeast = 6
level_of ShiftLeft = 7
level_of ShiftRight = 7
level_of Plus = 8
level_of Minus = 8
level_of Times = 9
level_of Over = 9
level_of Modulo = 9

-- the level of this number and the tighter ones
abbrev pub levels_from : ℕ → List (List (Spelt Binary))
levels_from level = drop level levels

-- what the token is at each level
abbrev pub at_levels : Tok → List (Option Binary)
at_levels t = map (λ ops. operator_of ops t) levels

-- an operator at its own level and none at the others, or none at all
abbrev pub only_at_its_level : Option Binary → List (Option Binary)
only_at_its_level None = replicate (length levels) None
only_at_its_level (Some op) = set (replicate (length levels) None) (level_of op) (Some op)
