-- One unit, step by step: a group that is jumped over, an include that is found at its second candidate, an import.
use Rattle.std.proofs.Common.{◌≡◌, ℕ, ◌+◌, true, false, List, [], ◌∷◌, ◌++◌, drop, refl, arith, codes}
use Rattle.std.specs.Prelude.{Some, None}
use Rattle.scan_model.specs.declared.command.Form.TheVariants.{Angled}
use Rattle.scan_model.specs.declared.unit_end.Place.{Place}
use Rattle.scan_model.specs.declared.unit_end.UnitEnd.TheVariants as Ends
use Rattle.scan_model.specs.declared.unit_end.FaultKind.TheVariants as FaultIs
use Prim.Native.String.{String}
use Rattle.scan_model.specs.declared.token.Kind.{Kind}
use Rattle.scan_model.specs.declared.token.Kind.TheVariants.{Ident, Number, Punct, Header}
use Rattle.scan_model.specs.declared.token.Tok.{Tok}
use Rattle.scan_model.specs.declared.token.Line.{Line}
use Rattle.scan_model.specs.HeaderName.{Named}
use Rattle.scan_model.specs.Files.{FileMap, Present, Absent}
use Rattle.scan_model.specs.Effect.{Now, Sends}
use Rattle.std.specs.declared.result.Result.TheVariants.{Ok}
use Rattle.scan_model.specs.ModuleLines.{Builder, new, take}
use Rattle.scan_model.specs.Stream.{ModuleLine}
use Rattle.scan_model.specs.Paths.{folder}
use Rattle.scan_model.specs.Includes.{include}
use Rattle.scan_model.specs.Search.{searched, place_searched}
use Rattle.scan_model.specs.State.{Group, Setup}
use Rattle.scan_model.specs.DirectiveLines.{effect}
use Rattle.unit_laws.specs.Reduction.{Given}
use Rattle.unit_laws.specs.KnownAnswers.{asked}
use Rattle.unit_laws.proofs.Computing.{running}
use Rattle.unit_laws.proofs.UnitForms.{with_folders, no_settings}
use Rattle.unit_steps.specs.Stack.{Frame, Nothing_more}
use Rattle.unit_steps.specs.Searches.{Included, first_search, include_search}
use Rattle.unit_steps.specs.Moments.{Moment, first_moment, core_at, in_file, file_frame}
use Rattle.unit_steps.specs.Stands.{Stands, StandsAtEnd, IsCandidate}
use Rattle.unit_steps.proofs.Starting.{starts_alone}
use Rattle.unit_steps.proofs.Begun.{settings_over, main_begins}
use Rattle.unit_steps.proofs.Answers.{answer_acts, given_lines}
use Rattle.unit_steps.proofs.Entering.{file_entered}
use Rattle.unit_steps.proofs.Steps.{line_acts}
use Rattle.unit_steps.proofs.Effects.{effect_goes, effect_includes, effect_sends}
use Rattle.unit_steps.proofs.Places.{candidate_first, candidate_next, candidate_answered, candidate_absent, include_enters_at}
use Rattle.unit_steps.proofs.Endings.{file_ends_well, unit_ends}
use Rattle.unit_steps.proofs.Jumps.{jump_to_partner}

setup : Setup
setup = record { settings = no_settings; command = with_folders ("/p/a" ∷ "/p/b" ∷ []) }

-- a token, and a line of them
abbrev t : Kind → String → ℕ → Tok
t kind text line = record { kind = kind; text = codes text; space = true; line = line }

abbrev row : ℕ → (ℕ → List Tok) → Line
row line toks = record { toks = toks line; line = line; next = line + 1 }

-- `#if 0`, `#include <no.h>`, `#endif`, `#include <v.h>` and `import a;`
abbrev opening : Line
opening = row 1 (λ n. t Punct "#" n ∷ t Ident "if" n ∷ t Number "0" n ∷ [])

abbrev excluded : Line
excluded = row 2 (λ n. t Punct "#" n ∷ t Ident "include" n ∷ t Header "<no.h>" n ∷ [])

abbrev closing : Line
closing = row 3 (λ n. t Punct "#" n ∷ t Ident "endif" n ∷ [])

abbrev including : Line
including = row 4 (λ n. t Punct "#" n ∷ t Ident "include" n ∷ t Header "<v.h>" n ∷ [])

abbrev importing : Line
importing = row 5 (λ n. t Ident "import" n ∷ t Ident "a" n ∷ t Punct ";" n ∷ [])

abbrev main_lines : List Line
main_lines = opening ∷ excluded ∷ closing ∷ including ∷ importing ∷ []

main_path : List ℕ
main_path = codes "/p/u.cpp"

one : List (List ℕ × Given)
one = (main_path, Present main_lines) ∷ []

-- the main file is sought
sought : Moment
sought = record (first_moment setup (Some (first_search FaultIs.MainMissing main_path))) { top = Nothing_more }

main_sought : Stands setup sought []
unfolding setup main_path sought
main_sought =
    let s0 = starts_alone setup refl in
    let s1 = settings_over setup (first_moment setup None) [] 1 refl refl refl s0 in
    main_begins setup _ [] 1 refl refl refl s1

-- and entered
main_entered : Stands setup (in_file main_path None main_lines sought) one
unfolding setup main_path sought one
main_entered =
    let place : Place = record { path = main_path; line = 0 } in
    let acts = answer_acts setup sought [] (first_search FaultIs.MainMissing main_path) main_path [] (Present main_lines) refl refl main_sought in
    file_entered setup sought one place main_path None main_lines acts (omega arith) (omega arith) (given_lines [] [] main_path main_lines)

-- ## The main file, line by line

-- the main file with these conditionals open and the lines from this number on
abbrev main_frame : List Group → ℕ → Frame
main_frame groups next = record (file_frame main_path None main_lines) { groups = groups; rest = drop next main_lines }

-- it is at the top
abbrev in_main : List Group → ℕ → Moment
in_main groups next = record sought { frames = main_frame groups next ∷ []; search = None; entered = 1 }

untaken : List Group
untaken = record { line = 1; live = false; taken = false; past_else = false } ∷ []

-- `#if 0` opens a group that isn't live
if_zero : (files : FileMap (List Line)) → effect files setup (core_at (in_main [] 1) (main_path ∷ [])) opening ≡ Now (core_at (in_main untaken 1) (main_path ∷ []))
unfolding running setup main_path sought untaken
if_zero files = refl

group_opened : Stands setup (in_main untaken 1) one
unfolding one sought
group_opened =
    effect_goes setup (in_main [] 1) one (main_frame [] 1) [] (λ files c. effect files setup c opening) refl
    (line_acts setup (in_main [] 0) one (main_frame [] 0) [] opening (drop 1 main_lines) refl refl refl main_entered)
    (core_at (in_main untaken 1) (main_path ∷ [])) refl if_zero

-- its lines are jumped over
group_jumped : Stands setup (in_main untaken 2) one
unfolding running setup untaken
group_jumped = jump_to_partner setup (in_main untaken 1) one (main_frame untaken 1) [] main_lines 0 refl refl refl refl group_opened 2 (omega arith) refl

-- it ends
endif : (files : FileMap (List Line)) → effect files setup (core_at (in_main untaken 3) (main_path ∷ [])) closing ≡ Now (core_at (in_main [] 3) (main_path ∷ []))
unfolding running setup main_path sought untaken
endif files = refl

group_closed : Stands setup (in_main [] 3) one
unfolding one
group_closed =
    effect_goes setup (in_main untaken 3) one (main_frame untaken 3) [] (λ files c. effect files setup c closing) refl
    (line_acts setup (in_main untaken 2) one (main_frame untaken 2) [] closing (drop 3 main_lines) refl refl refl group_jumped)
    (core_at (in_main [] 3) (main_path ∷ [])) refl endif

-- ## The include

name : Named
name = record { form = Angled; name = codes "v.h"; after = [] }

abbrev here : Place
here = record { path = main_path; line = 4 }

from : List ℕ
from = folder main_path

includes : (files : FileMap (List Line)) →
    effect files setup (core_at (in_main [] 4) (main_path ∷ [])) including ≡ include files here (searched setup name from) (place_searched setup name from) (core_at (in_main [] 4) (main_path ∷ []))
unfolding running setup main_path sought name from
includes files = refl

-- it is looked for at its candidates
looked_for : Stands setup (record (in_main [] 4) { search = Some (include_search setup here name from 0) }) one
unfolding one
looked_for =
    effect_includes setup (in_main [] 4) one (main_frame [] 4) [] (λ files c. effect files setup c including) refl
    (line_acts setup (in_main [] 3) one (main_frame [] 3) [] including (drop 4 main_lines) refl refl refl group_closed)
    here name from includes

first_path : List ℕ
first_path = codes "/p/a/v.h"

second_path : List ℕ
second_path = codes "/p/b/v.h"

two : List (List ℕ × Given)
two = one ++ (first_path, Absent) ∷ []

three : List (List ℕ × Given)
three = two ++ (second_path, Present []) ∷ []

-- the first one is absent
is_first : IsCandidate setup one name from 0 first_path
unfolding running setup main_path name from first_path
is_first = candidate_first setup name from one first_path refl

absent : Stands setup (record (in_main [] 4) { search = Some (include_search setup here name from 1) }) two
unfolding two
absent =
    candidate_absent setup name from (record (in_main [] 4) { search = Some (include_search setup here name from 0) }) two (Included (place_searched setup name from)) here 0 first_path
    (candidate_answered setup name from (record (in_main [] 4) { search = Some (include_search setup here name from 0) }) one (Included (place_searched setup name from)) here 0 refl looked_for first_path Absent is_first)

-- the second one is there, and has the place of its folder
is_second : IsCandidate setup two name from 1 second_path
unfolding running setup main_path name from two first_path second_path
is_second = candidate_next setup name from one 0 first_path second_path is_first refl

header_entered : Stands setup (in_file second_path (Some 2) [] (record (in_main [] 4) { search = Some (include_search setup here name from 1) })) three
unfolding running setup sought name three second_path
header_entered =
    let m : Moment = record (in_main [] 4) { search = Some (include_search setup here name from 1) } in
    let acts = candidate_answered setup name from m two (Included (place_searched setup name from)) here 1 refl absent second_path (Present []) is_second in
    file_entered setup m three here second_path (Some 2) [] (include_enters_at setup m two here name from 1 second_path [] is_second refl acts) (omega arith) (omega arith)
    (given_lines two [] second_path [])

-- it ends
header_ended : Stands setup (record (in_main [] 4) { entered = 2 }) three
unfolding sought
header_ended =
    let m : Moment = in_file second_path (Some 2) [] (record (in_main [] 4) { search = Some (include_search setup here name from 1) }) in
    file_ends_well setup m three (file_frame second_path (Some 2) []) (main_frame [] 4 ∷ []) refl refl refl header_entered refl

-- ## The import, and the end

required : Builder
required = record (new (codes "u.o") main_path) { so_far = record { output = codes "u.o"; source = main_path; provides = None; required = codes "a" ∷ [] } }

abbrev last : List Group → ℕ → Moment
last groups next = record (in_main groups next) { entered = 2 }

imports : (files : FileMap (List Line)) → (l : ModuleLine) × (
    (effect files setup (core_at (last [] 5) (asked three)) importing ≡ Sends l (core_at (last [] 5) (asked three)))
    × (take (last [] 5).builder l.exported l.keyword l.toks ≡ Ok required)
    )
unfolding running setup main_path sought one two three first_path second_path required
imports files = (_, (refl, refl))

imported : Stands setup (record (last [] 5) { builder = required }) three
imported =
    effect_sends setup (last [] 5) three (main_frame [] 5) [] (λ files c. effect files setup c importing) refl
    (line_acts setup (last [] 4) three (main_frame [] 4) [] importing (drop 5 main_lines) refl refl refl header_ended)
    (core_at (last [] 5) (asked three)) refl required imports

-- the record requires the module
unit_over : StandsAtEnd setup (Ends.Record required.so_far) three
unfolding sought
unit_over =
    let m : Moment = record (last [] 5) { builder = required } in
    unit_ends setup (record m { frames = [] }) three refl refl refl (file_ends_well setup m three (main_frame [] 5) [] refl refl refl imported refl)
