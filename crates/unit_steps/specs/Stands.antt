-- What a unit's moment stands for.
use Rattle.std.specs.Prelude.{◌≡◌, ℕ, true, List, take, slice_get, Some}
use Rattle.std.specs.List.{list_all, AllByRecursion}
use Rattle.std.specs.declared.result.Result.TheVariants.{Ok}
use Rattle.scan_model.specs.declared.token.Line.{Line}
use Rattle.scan_model.specs.declared.command.Job.TheVariants as JobIs
use Rattle.scan_model.specs.declared.unit_end.UnitEnd.{UnitEnd}
use Rattle.scan_model.specs.Lines.{is_directive}
use Rattle.scan_model.specs.HeaderName.{Named}
use Rattle.scan_model.specs.Files.{FileMap, Present, Absent}
use Rattle.scan_model.specs.ModuleLines.{Builder}
use Rattle.scan_model.specs.State.{Setup, Core, State, Reached, then_go}
use Rattle.scan_model.specs.Stream.{read_stream}
use Rattle.scan_model.specs.Effect.{Effect, done}
use Rattle.scan_model.specs.Search.{searched}
use Rattle.scan_model.specs.Answer.{Known, answer_by, looked_by, end_of, looks_of}
use Rattle.unit_laws.specs.Reduction.{Given}
use Rattle.unit_laws.specs.KnownAnswers.{asked}
use Rattle.unit_steps.specs.Stack.{Top, Frame, as_they_are, rest_of_all, entering}
use Rattle.unit_steps.specs.Moments.{Moment, core_at, goes_on}

-- ## The maps that are spoken of

-- each file has directives alone
abbrev pub AreKept : FileMap (List Line) → Type 0
AreKept files = (path : List ℕ) (ls : List Line) → files path ≡ Some (Present ls) → list_all is_directive ls ≡ true

-- the map has what was given of each path
abbrev pub Agree : FileMap (List Line) → List (List ℕ × Given) → Type 0
Agree files answers = AllByRecursion (λ a. files a.0 ≡ Some a.1) answers

-- the lines are directives in all that agree
abbrev pub AreLines : List (List ℕ × Given) → List Line → Type 0
AreLines answers ls = (files : FileMap (List Line)) → AreKept files → Agree files answers → list_all is_directive ls ≡ true

-- the paths are absent in all that agree
abbrev pub AreAbsent : List (List ℕ × Given) → List (List ℕ) → Type 0
AreAbsent answers paths = (files : FileMap (List Line)) → AreKept files → Agree files answers → AllByRecursion (λ path. files path ≡ Some Absent) paths

-- ## What a moment stands for, over one map

-- the whole unit over these files ends as what is reached here, and looks at the same paths
abbrev pub IsReached : FileMap (List Line) → Setup → Reached → Type 0
IsReached files setup r =
    (answer_by as_they_are files setup.settings (JobIs.Run setup.command) ≡ end_of setup.command r)
    × (looked_by as_they_are files setup.settings (JobIs.Run setup.command) ≡ looks_of setup.command r)

-- the lines that are left have directives alone
abbrev pub AreDirectives : List Frame → Type 0
AreDirectives fs = AllByRecursion (λ f. list_all is_directive f.rest ≡ true) fs

-- a state of the moment, whose module lines have made its record, and from which the whole unit goes on
pub record StandsOver (files : FileMap (List Line)) (setup : Setup) (m : Moment) (looked : List (List ℕ)) : Type 0 where
  pub state : State
  pub core : state.core ≡ core_at m looked
  pub reads : read_stream setup.command state.stream ≡ Ok m.builder
  pub directives : AreDirectives m.frames
  pub reached : IsReached files setup (goes_on files setup m.top m.frames m.search state)

-- in the middle of a step: a state in which this effect takes place now, with these files left
pub record ActsOver (files : FileMap (List Line)) (setup : Setup) (top : Top) (fs : List Frame) (b : Builder) (e : Effect (List Line)) : Type 0 where
  pub state : State
  pub reads : read_stream setup.command state.stream ≡ Ok b
  pub directives : AreDirectives fs
  pub reached : IsReached files setup (then_go (rest_of_all files setup top fs) (done (entering files setup top fs) state e))

-- the unit has this end, and these are all paths that it looks at
abbrev pub EndsOver : FileMap (List Line) → Setup → UnitEnd → List (List ℕ) → Type 0
EndsOver files setup end looked =
    (answer_by as_they_are files setup.settings (JobIs.Run setup.command) ≡ Known end) × (looked_by as_they_are files setup.settings (JobIs.Run setup.command) ≡ looked)

-- ## And over all that agree with the answers

abbrev pub Stands : Setup → Moment → List (List ℕ × Given) → Type 0
Stands setup m answers = (files : FileMap (List Line)) → AreKept files → Agree files answers → StandsOver files setup m (asked answers)

abbrev pub ByEffect : Setup → Top → List Frame → Builder → List (List ℕ × Given) → (FileMap (List Line) → Effect (List Line)) → Type 0
ByEffect setup top fs b answers e = (files : FileMap (List Line)) → AreKept files → Agree files answers → ActsOver files setup top fs b (e files)

-- at this moment, with what directives see there
abbrev pub Acts : Setup → Moment → List (List ℕ × Given) → (FileMap (List Line) → Core → Effect (List Line)) → Type 0
Acts setup m answers e = ByEffect setup m.top m.frames m.builder answers (λ files. e files (core_at m (asked answers)))

-- the unit has this end, and the answers are all that it looks at
abbrev pub StandsAtEnd : Setup → UnitEnd → List (List ℕ × Given) → Type 0
StandsAtEnd setup end answers = (files : FileMap (List Line)) → AreKept files → Agree files answers → EndsOver files setup end (asked answers)

-- ## Candidates, one at a time

-- p is the candidate of the number k where this name is looked for from this folder, and those before it were absent
pub record IsCandidate (setup : Setup) (answers : List (List ℕ × Given)) (n : Named) (from : List ℕ) (k : ℕ) (p : List ℕ) : Type 0 where
  pub there : slice_get (searched setup n from) k ≡ Some p
  pub absent : AreAbsent answers (take k (searched setup n from))
