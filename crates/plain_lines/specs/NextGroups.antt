-- The next group of a conditional ([cpp.cond]).
use Rattle.std.specs.Prelude.{Bool, false, if◌then◌else◌, List, [], ◌∷◌}
use Rattle.scan_model.specs.State.{Group}
use Rattle.plain_lines.specs.declared.conditionals.NextGroup.{NextGroup}
use Rattle.plain_lines.specs.declared.conditionals.NextGroup.TheVariants.{Unbalanced, Passed, Asked}

-- what a line that begins it finds
abbrev pub finds : List Group → NextGroup
finds [] = Unbalanced
finds (g ∷ gs) = if g.past_else then Unbalanced else if g.taken then Passed else Asked

-- where it can't be taken
abbrev pub passed : List Group → List Group
passed [] = []
passed (g ∷ gs) = record g { live = false } ∷ gs
