-- The arguments of a call, cut.
use Rattle.std.specs.Prelude.{◌≡◌, ℕ, suc, ◌≤◌, nat_lt, if◌then◌else◌, List, [], ◌∷◌, ◌++◌, map, length, All, Option, Some, None}
use Rattle.hide_sets.specs.Sets.{Sets}
use Rattle.scan_model.specs.declared.macros.FunctionDef.{FunctionDef}
use Rattle.scan_model.specs.Substitution as spec
use Rattle.scan_model.specs.Expansion.{written_args}
use Rattle.substitution.specs.declared.marked.Marked.{Marked}
use Rattle.substitution.specs.declared.marked.Arg.{Arg}
use Rattle.substitution.specs.Meaning.{all_marked_of, AreMarked}
use Rattle.list_stack.specs.Stacks.{Stack}
use Rattle.expansion.specs.States.{names_of, weight_of_lists}

-- of a list with fewer than n elements: it with one more, which is empty
abbrev pub filled : {X : Type 0} → X → ℕ → List X → List X
filled none n xs = if nat_lt (length xs) n then xs ++ none ∷ [] else xs

-- an argument of no tokens
abbrev pub empty_arg : Arg
empty_arg = record { written = []; replaced = None }

-- the list at work has been cut into these many arguments for n parameters, the last of which may be missing
pub record AreCut (written : List spec.Marked → Option (List (List spec.Marked))) (n : ℕ) (old new : Stack) (count : ℕ) : Type 0 where
  pub args : List (List Marked)
  pub lists : new.first ∷ new.others ≡ args ++ old.others
  pub count_is : count ≡ length args
  pub enough : length args ≤ n
  pub nearly : n ≤ suc (length args)
  pub size : weight_of_lists args ≤ suc (length old.first)
  pub known : (sets : Sets) → AreMarked sets old.first → All (AreMarked sets) args
  pub meant : (sets : Sets) → written (all_marked_of sets old.first) ≡ Some (filled [] n (map (all_marked_of sets) args))

-- none where their number is wrong, and then nothing is said of what is left
abbrev pub CutsInto : (List spec.Marked → Option (List (List spec.Marked))) → ℕ → Stack → Stack → Option ℕ → Type 0
CutsInto written n old new None = (sets : Sets) → written (all_marked_of sets old.first) ≡ None
CutsInto written n old new (Some count) = AreCut written n old new count

abbrev pub CutsArgs : FunctionDef → Stack → Stack → Option ℕ → Type 0
CutsArgs f old new found = CutsInto (written_args f) (length (names_of f)) old new found
