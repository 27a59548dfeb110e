-- What a unit stands for, by what it does next.
use Rattle.std.specs.Prelude.{◌≡◌, ℕ, ◌+◌, ◌-◌, ◌*◌, ◌^◌, ◌<◌, ◌≤◌, Bool, true, false, List, [], ◌∷◌, ◌++◌, length, IsSome, Option, None, Some, vec_len, vec_capacity}
use Rattle.scan_model.specs.declared.token.Line.{Line}
use Rattle.scan_model.specs.declared.unit_end.Place.{Place}
use Rattle.scan_model.specs.declared.unit_end.FaultKind.{FaultKind}
use Rattle.scan_model.specs.declared.unit_end.UnitEnd.{UnitEnd}
use Rattle.scan_model.specs.declared.unit_end.UnitEnd.TheVariants as Ends
use Rattle.scan_model.specs.State.{Setup}
use Rattle.scan_model.specs.Conditionals.{is_skipped, opening_of}
use Rattle.scan_model.specs.HeaderName.{terms}
use Rattle.scan_model.specs.Macros.{first_macros}
use Rattle.scan_model.specs.ModuleLines.{new}
use Rattle.scan_model.specs.Paths.{folder}
use Rattle.scan_model.specs.Files.{Present, Absent}
use Rattle.scan_model.specs.Stream.{fault_kind}
use Rattle.scan_model.specs.Effect.{Enters}
use Rattle.unit_laws.specs.Reduction.{Given}
use Rattle.plain_lines.specs.Conditions.{test_count}
use Rattle.macro_table.specs.Table.{macros_of}
use Rattle.plain_lines.specs.declared.state.UnitState.{UnitState}
use Rattle.plain_lines.specs.declared.action.Action.{Action}
use Rattle.plain_lines.specs.declared.action.Action.TheVariants as ActionIs
use Rattle.unit_steps.specs.Logs.{path_at}
use Rattle.unit_steps.specs.Stack.{current}
use Rattle.unit_steps.specs.Searches.{Search, include_search, on_given, with_terms}
use Rattle.unit_steps.specs.Stands.{Acts, Stands, StandsAtEnd}
use Rattle.unit_steps.specs.UnitView.{Phase, Runs, Asks, Over, Spent, BeginsLooks}
use Rattle.unit_steps.specs.Work.{Work, rank}
use Rattle.unit_scan.specs.declared.parts.Left.{Left}
use Rattle.unit_scan.specs.declared.parts.Left.TheVariants as LeftIs
use Rattle.unit_scan.specs.declared.parts.Run.{Run}
use Rattle.unit_scan.specs.declared.stage.FirstFile.TheVariants as FirstIs
use Rattle.unit_scan.specs.declared.stage.Testing.{Testing}
use Rattle.unit_scan.specs.declared.stage.Lookup.{Lookup}
use Rattle.unit_scan.specs.declared.stage.Lookup.TheVariants.{First, Named as ByName}
use Rattle.unit_scan.specs.declared.stage.Blame.{Blame}
use Rattle.unit_scan.specs.declared.stage.Blame.TheVariants as BlameIs
use Rattle.unit_scan.specs.declared.stage.Stage.{Stage}
use Rattle.unit_scan.specs.declared.stage.Stage.TheVariants as StageIs
use Rattle.unit_scan.specs.declared.turn.Turn.{Turn}
use Rattle.unit_scan.specs.declared.turn.Turn.TheVariants.{Ask, Done}
use Rattle.unit_scan.specs.Parts.{Sound, told, frames_of, present, moment_of, work_of}
use Rattle.unit_scan.specs.Told.{rank_limit}
use Rattle.unit_scan.specs.Lookups.{terms_from, so_far, opening, place_at, HasTaken, search_of, paths_after, IsTesting, IsLookup, AbsentSoFar, IsAsked}

module _ (setup : Setup) (run : Run) where
  -- the search, where the unit is now
  abbrev pub search_now : Lookup → Search
  search_now lookup = search_of setup (frames_of (told run) run.stack.items) (present (told run) run.stack.items) lookup

  pub record Running : Type 0 where
    pub sound : Sound setup run
    pub stands : Stands setup (moment_of setup run None) (told run)

  -- the search is at its next candidate
  pub record Seeking (lookup : Lookup) : Type 0 where
    pub sound : Sound setup run
    pub sought : IsLookup setup run lookup
    pub absent : AbsentSoFar setup (told run) lookup
    pub candidates : run.candidates ≡ length (search_now lookup).paths
    pub stands : Stands setup (moment_of setup run (Some (search_now lookup))) (told run)

  -- the tests of the condition are left, and then its value
  pub record Conditional (t : Testing) : Type 0 where
    pub sound : Sound setup run
    pub testing : IsTesting run t 0
    pub acts : Acts setup (moment_of setup run None) (told run)
        (λ files c. with_terms files setup (present (told run) run.stack.items) (opening (frames_of (told run) run.stack.items) t) (so_far t) (terms_from t.toks t.next) t.toks c)

  -- the candidate is asked, and has room for its answer
  pub record Asking (lookup : Lookup) (path : List ℕ) : Type 0 where
    pub sound : Sound setup run
    pub sought : IsLookup setup run lookup
    pub asked : IsAsked setup (told run) lookup path
    pub candidates : run.candidates ≡ length (paths_after setup lookup)
    pub paths : (search_now lookup).paths ≡ path ∷ paths_after setup lookup
    pub stands : Stands setup (moment_of setup run (Some (search_now lookup))) (told run)
    pub room : vec_len run.log < vec_capacity run.log

  -- the candidate has its answer, which is the last one
  pub record Told (lookup : Lookup) (before : List (List ℕ × Given)) (path : List ℕ) (content : Given) : Type 0 where
    pub sound : Sound setup run
    pub sought : IsLookup setup run lookup
    pub last : told run ≡ before ++ (path, content) ∷ []
    pub asked : IsAsked setup before lookup path
    pub candidates : run.candidates ≡ length (paths_after setup lookup)
    pub acts : Acts setup (moment_of setup run None) (told run)
        (λ files c. on_given files setup (search_now lookup).aim (search_now lookup).place path (paths_after setup lookup) content c)

  abbrev pub Answering : Lookup → Type 0
  Answering lookup = (before : List (List ℕ × Given)) × ((path : List ℕ) × ((content : Given) × Told lookup before path content))

  abbrev pub Holds : Stage → Type 0
  Holds StageIs.Begins = Seeking (First FirstIs.Predefines)
  Holds StageIs.Runs = Running
  Holds (StageIs.Seeks lookup) = Seeking lookup
  Holds (StageIs.Tests t) = Conditional t
  Holds (StageIs.Asks lookup path) = Asking lookup path
  Holds (StageIs.Answered lookup) = Answering lookup
  Holds StageIs.Recorded = StandsAtEnd setup (Ends.Record run.state.builder.so_far) (told run)
  Holds (StageIs.Over end) = StandsAtEnd setup end (told run)
  Holds StageIs.Spent = BeginsLooks setup.settings setup.command (told run) []

  abbrev pub phase_of : Stage → Phase
  phase_of (StageIs.Asks lookup path) = Asks path
  phase_of StageIs.Recorded = Over (Ends.Record run.state.builder.so_far)
  phase_of (StageIs.Over end) = Over end
  phase_of StageIs.Spent = Spent
  phase_of stage = Runs

-- ## How the steps end

abbrev pub left_order : Left → ℕ
left_order (LeftIs.Settings k) = 1
left_order left = 0

abbrev pub stage_order : Stage → ℕ
stage_order StageIs.Begins = 6
stage_order (StageIs.Answered lookup) = 5
stage_order (StageIs.Seeks lookup) = 4
stage_order (StageIs.Tests t) = 3
stage_order StageIs.Runs = 2
stage_order stage = 0

-- a number that each step lowers; n is the order of what comes next
abbrev pub steps_from : Setup → Run → ℕ → ℕ
steps_from setup run n = rank (work_of setup run) * 4096 + (length run.stack.items * 16 + left_order run.left * 8 + n)

-- memory isn't wanting, and where a path is asked, less work is left
abbrev pub Proceeds : Stage → Work → Work → Type 0
Proceeds (StageIs.Asks lookup path) before after = rank after < rank before
Proceeds StageIs.Spent before after = ⊥
Proceeds stage before after = Unit {0}

-- a step of the unit, from what has the order n
pub record Follows (setup : Setup) (run : Run) (n : ℕ) (run' : Run) (stage : Stage) : Type 0 where
  pub holds : Holds setup run' stage
  pub less : steps_from setup run' (stage_order stage) < steps_from setup run n
  pub proceeds : Proceeds stage (work_of setup run) (work_of setup run')

-- a step comes next
abbrev pub IsMoving : Stage → Type 0
IsMoving (StageIs.Asks lookup path) = ⊥
IsMoving StageIs.Recorded = ⊥
IsMoving (StageIs.Over end) = ⊥
IsMoving StageIs.Spent = ⊥
IsMoving stage = Unit {0}

abbrev pub moves : Stage → Bool
moves (StageIs.Asks lookup path) = false
moves StageIs.Recorded = false
moves (StageIs.Over end) = false
moves StageIs.Spent = false
moves stage = true

abbrev pub turn_at : Stage → Turn
turn_at (StageIs.Asks lookup path) = Ask
turn_at stage = Done

-- between two turns no step is half done
abbrev pub Standing : Setup → Run → Stage → Type 0
Standing setup run (StageIs.Seeks lookup) = ⊥
Standing setup run (StageIs.Tests t) = ⊥
Standing setup run stage = Holds setup run stage

-- all steps up to a path that is asked, or the end
pub record Arrives (setup : Setup) (run run' : Run) (stage : Stage) : Type 0 where
  pub stands : Standing setup run' stage
  pub stays : moves stage ≡ false
  pub proceeds : Proceeds stage (work_of setup run) (work_of setup run')

-- ## Parts of steps

-- where a fault of the present search stands: at a first file itself, or at a line of the file that the unit is in
abbrev pub blamed : Setup → Run → Blame → Place
blamed setup run BlameIs.Alone = record { path = path_at (told run) (length (told run) - 1); line = 0 }
blamed setup run (BlameIs.Here line) = place_at (frames_of (told run) run.stack.items) line

abbrev pub blame_of : Lookup → Blame
blame_of (First first) = BlameIs.Alone
blame_of (ByName n purpose) = BlameIs.Here n.line

abbrev pub stopped : FaultKind → Place → UnitEnd
stopped kind place = Ends.Stopped (record { kind = kind; place = place })

-- the file that was given last is entered
pub record Entering (setup : Setup) (run : Run) (blame : Blame) (chain_place : Option ℕ) : Type 0 where
  pub sound : Sound setup run
  pub before : List (List ℕ × Given)
  pub path : List ℕ
  pub text : List Line
  pub last : told run ≡ before ++ (path, Present text) ∷ []
  pub acts : Acts setup (moment_of setup run None) (told run) (λ files c. Enters (blamed setup run blame) path chain_place text c)

-- a first file has its answer where it is blamed
abbrev pub CanBlame : Run → Blame → Type 0
CanBlame run BlameIs.Alone = 0 < length run.log.items
CanBlame run (BlameIs.Here line) = Unit {0}

-- the answer is a fault of this kind
pub record IsFaulty (setup : Setup) (run : Run) (lookup : Lookup) (kind : FaultKind) : Type 0 where
  pub sound : Sound setup run
  pub some : CanBlame run (blame_of lookup)
  pub ends : StandsAtEnd setup (stopped kind (blamed setup run (blame_of lookup))) (told run)

-- the file isn't there
abbrev pub IsAbsent : Setup → Run → Lookup → Type 0
IsAbsent setup run lookup = (before : List (List ℕ × Given)) × ((path : List ℕ) × Told setup run lookup before path Absent)

-- or it is
abbrev pub IsPresent : Setup → Run → Lookup → Type 0
IsPresent setup run lookup =
    (before : List (List ℕ × Given)) × ((path : List ℕ) × ((text : List Line) × Told setup run lookup before path (Present text)))

-- one more answer of a condition's tests
pub record IsAnswered (t : Testing) (there : Bool) (t' : Testing) : Type 0 where
  pub is_elif : t'.is_elif ≡ t.is_elif
  pub toks : t'.toks ≡ t.toks
  pub next : t'.next ≡ t.next
  pub so_far : t'.so_far.items ≡ t.so_far.items ++ there ∷ []

-- what the action of a line leaves
abbrev pub After : Setup → Run → Action → Type 0
After setup run ActionIs.Goes = Stands setup (moment_of setup run None) (told run)
After setup run ActionIs.Skips =
    Stands setup (moment_of setup run None) (told run) × (is_skipped (current (frames_of (told run) run.stack.items)).groups ≡ true)
After setup run ActionIs.Sent = Stands setup (moment_of setup run None) (told run)
After setup run (ActionIs.Refused x) = StandsAtEnd setup (stopped (fault_kind x) (place_at (frames_of (told run) run.stack.items) (present (told run) run.stack.items).line)) (told run)
After setup run (ActionIs.Stops kind) = StandsAtEnd setup (stopped kind (place_at (frames_of (told run) run.stack.items) (present (told run) run.stack.items).line)) (told run)
After setup run (ActionIs.Includes form name) =
    let fs = frames_of (told run) run.stack.items in
    Stands setup (moment_of setup run (Some (include_search setup (place_at fs (present (told run) run.stack.items).line) (record { form = form; name = name; after = [] }) (folder (current fs).path) 0))) (told run)
After setup run (ActionIs.Tests condition) =
    IsSome (terms condition.toks) × (condition.tests ≡ test_count (terms_from condition.toks 0))
    × Acts setup (moment_of setup run None) (told run)
    (λ files c. with_terms files setup (present (told run) run.stack.items) (opening_of condition.is_elif (current (frames_of (told run) run.stack.items)).groups) [] (terms_from condition.toks 0) condition.toks c)

-- a line of the file at the top was taken, and this action is left of it
pub record Acted (setup : Setup) (run : Run) (action : Action) : Type 0 where
  pub sound : Sound setup run
  pub taken : HasTaken run.stack.items
  pub after : After setup run action

-- what follows a jump: no more files and lines are left, and the rest of the work is the same
pub record FollowsJump (setup : Setup) (run run' : Run) (stage : Stage) : Type 0 where
  pub holds : Holds setup run' stage
  pub depth : length run'.stack.items ≤ length run.stack.items
  pub lines : (work_of setup run').lines ≤ (work_of setup run).lines
  pub left : run'.left ≡ run.left
  pub entered : run'.entered ≡ run.entered
  pub tests : run'.tests ≡ run.tests
  pub candidates : run'.candidates ≡ run.candidates
  pub proceeds : (before after : Work) → Proceeds stage before after
  pub order : stage_order stage < 3

-- what follows a line that was taken: no more files and lines are left, and the work is the same but for its tests and
-- candidates
pub record FollowsLine (setup : Setup) (run run' : Run) (stage : Stage) : Type 0 where
  pub holds : Holds setup run' stage
  pub depth : length run'.stack.items ≤ length run.stack.items
  pub lines : (work_of setup run').lines ≤ (work_of setup run).lines
  pub entered : run'.entered ≡ run.entered
  pub tests : run'.tests < 2 ^ 64
  pub candidates : run'.candidates < 2 ^ 64
  pub proceeds : (before after : Work) → Proceeds stage before after
  pub order : stage_order stage < 8

-- the state of a unit that begins
pub record IsFirstState (setup : Setup) (state : UnitState) : Type 0 where
  pub macros : macros_of state.macros ≡ first_macros setup.command.dialect
  pub once : state.once ≡ []
  pub builder : state.builder ≡ new setup.command.output setup.command.source

-- and the other parts
pub record IsFirstRun (state : UnitState) (candidates : ℕ) (run : Run) : Type 0 where
  pub log : run.log.items ≡ []
  pub stack : run.stack.items ≡ []
  pub left : run.left ≡ LeftIs.Settings 0
  pub shared : run.state ≡ state
  pub entered : run.entered ≡ 0
  pub tests : run.tests ≡ 0
  pub count : run.candidates ≡ candidates

-- a unit that begins
pub record Starts (setup : Setup) (start : Run × Stage) : Type 0 where
  pub stands : Standing setup start.0 start.1
  pub answers : told start.0 ≡ []
  pub phase : phase_of setup start.0 start.1 ≡ Runs
  pub work : rank (work_of setup start.0) < rank_limit

-- an action that goes on, or stops the unit
abbrev pub IsPlain : Action → Type 0
IsPlain ActionIs.Goes = Unit {0}
IsPlain ActionIs.Skips = Unit {0}
IsPlain (ActionIs.Stops kind) = Unit {0}
IsPlain action = ⊥

abbrev pub plain_fault : Action → Option FaultKind
plain_fault (ActionIs.Stops kind) = Some kind
plain_fault action = None
