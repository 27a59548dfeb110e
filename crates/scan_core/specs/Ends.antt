-- How a step ends.
use Rattle.std.specs.Prelude.{Result, ⊤}
use Rattle.std.specs.declared.result.Result.TheVariants.{Ok, Err}

-- both went well, or neither did
abbrev pub SameEnd : {A B E F : Type 0} → Result A E → Result B F → Type 0
SameEnd (Ok a) (Ok b) = ⊤
SameEnd (Err e) (Err f) = ⊤
SameEnd result other = ⊥
