-- What a unit looks for, and what an answer makes of that.
use Rattle.std.specs.Prelude.{ℕ, Bool, true, false, List, [], ◌∷◌, drop, Option, None}
use Rattle.scan_model.specs.declared.token.Tok.{Tok}
use Rattle.scan_model.specs.declared.token.Line.{Line}
use Rattle.scan_model.specs.declared.command.Form.TheVariants.{Quoted}
use Rattle.scan_model.specs.declared.unit_end.Place.{Place}
use Rattle.scan_model.specs.declared.unit_end.FaultKind.{FaultKind}
use Rattle.scan_model.specs.declared.unit_end.FaultKind.TheVariants as FaultIs
use Rattle.scan_model.specs.HeaderName.{Term, Named}
use Rattle.scan_model.specs.Condition.{value}
use Rattle.scan_model.specs.Files.{FileMap, Present, Absent, Failed, Big, NoMemory}
use Rattle.scan_model.specs.State.{Group, Setup, Core, OutOfMemory}
use Rattle.scan_model.specs.Effect.{Effect, Enters, Halts, fault, stop_at}
use Rattle.scan_model.specs.Search.{with_found, searched, place_searched}
use Rattle.scan_model.specs.Includes.{unless_once}
use Rattle.scan_model.specs.Conditionals.{Opening, OfIf, OfElif, on_chosen, with_has_values, on_value}
use Rattle.unit_laws.specs.Reduction.{Given}

-- ## Why paths are looked at

-- A first file, which is entered in any case and has no place in the chain; an include or a forced file, with the
-- places in the chain that paths give; a `__has_include` or `__has_include_next` of a condition, with the answers so
-- far, the last one first, what follows it, and all tokens of the condition.
pub data Aim : Type 0 where
  First_file : FaultKind → Aim
  Included : (List ℕ → Option ℕ) → Aim
  Tested : Line → Opening → List Bool → List Term → List Tok → Aim

-- a search: its aim, the place of its faults, and the paths that are left, of which the first is asked
pub record Search : Type 0 where
  pub aim : Aim
  pub place : Place
  pub paths : List (List ℕ)

-- ## Conditions

-- the open conditionals of the file after the condition's value
abbrev pub chosen_groups : Line → Opening → Bool → List Group → List Group
chosen_groups l OfIf yields groups = record { line = l.line; live = yields; taken = yields; past_else = false } ∷ groups
chosen_groups l (OfElif g gs) yields groups = record g { live = yields; taken = yields } ∷ gs

-- the answers so far, the last one first, before the others
abbrev pub put_before : List Bool → List Bool → List Bool
put_before [] has = has
put_before (b ∷ so_far) has = put_before so_far (b ∷ has)

-- the terms that are left of a condition, after the answers so far
abbrev pub with_terms : FileMap (List Line) → Setup → Line → Opening → List Bool → List Term → List Tok → Core → Effect (List Line)
with_terms files setup l opening so_far ts toks c =
    with_has_values files setup l ts c (λ has. on_value l (on_chosen l opening) (value toks (put_before so_far has)))

-- ## What the search does

-- where all paths are absent
abbrev pub on_absent : FileMap (List Line) → Setup → Aim → Place → Core → Effect (List Line)
on_absent files setup (First_file missing) place c = stop_at missing place c
on_absent files setup (Included places) place c = stop_at FaultIs.IncludeNotFound place c
on_absent files setup (Tested l opening so_far ts toks) place c = with_terms files setup l opening (false ∷ so_far) ts toks c

-- where one is there
abbrev pub on_present : FileMap (List Line) → Setup → Aim → Place → List ℕ → List Line → Core → Effect (List Line)
on_present files setup (First_file missing) place path text c = Enters place path None text c
on_present files setup (Included places) place path text c = unless_once place places path text c
on_present files setup (Tested l opening so_far ts toks) place path text c = with_terms files setup l opening (true ∷ so_far) ts toks c

-- the whole search, over these paths
abbrev pub searching : FileMap (List Line) → Setup → Aim → Place → List (List ℕ) → Core → Effect (List Line)
searching files setup aim place paths c = with_found files place paths c (on_absent files setup aim place) (on_present files setup aim place)

-- what the answer for the path p makes of it, where the paths ps follow
abbrev pub on_given : FileMap (List Line) → Setup → Aim → Place → List ℕ → List (List ℕ) → Given → Core → Effect (List Line)
on_given files setup aim place p ps Absent c = searching files setup aim place ps c
on_given files setup aim place p ps (Present text) c = on_present files setup aim place p text c
on_given files setup aim place p ps Failed c = Halts (fault FaultIs.ReadFault place) c
on_given files setup aim place p ps Big c = Halts (fault FaultIs.FileTooLarge place) c
on_given files setup aim place p ps NoMemory c = Halts OutOfMemory c

-- ## Which searches begin

-- one path alone: the predefines or the main file, whose faults have line 0
abbrev pub first_search : FaultKind → List ℕ → Search
first_search missing path = record { aim = First_file missing; place = record { path = path; line = 0 }; paths = path ∷ [] }

-- a name, of which k candidates were asked before
abbrev pub name_search : Aim → Setup → Place → Named → List ℕ → ℕ → Search
name_search aim setup place n from k = record { aim = aim; place = place; paths = drop k (searched setup n from) }

-- the same for an include or a forced file
abbrev pub include_search : Setup → Place → Named → List ℕ → ℕ → Search
include_search setup place n from k = name_search (Included (place_searched setup n from)) setup place n from k

-- the name of a `-include`, which is looked for as a quoted one
abbrev pub forced_name : List ℕ → Named
forced_name name = record { form = Quoted; name = name; after = [] }
