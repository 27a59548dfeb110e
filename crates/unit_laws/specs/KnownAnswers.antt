-- What a unit may say of all whole files, by the answers that it was given.
use Rattle.std.specs.Prelude.{◌≡◌, ℕ, if◌then◌else◌, ⊤, List, [], ◌∷◌, ◌++◌, map, Some, None}
use Rattle.std.specs.List.{AllByRecursion}
use Rattle.scan_model.specs.declared.token.Line.{Line}
use Rattle.scan_model.specs.declared.command.Settings.{Settings}
use Rattle.scan_model.specs.declared.command.Command.{Command}
use Rattle.scan_model.specs.declared.command.Job.{Job}
use Rattle.scan_model.specs.declared.command.Job.TheVariants as JobIs
use Rattle.scan_model.specs.declared.unit_end.UnitEnd.{UnitEnd}
use Rattle.scan_model.specs.declared.unit_end.UnitEnd.TheVariants as Ends
use Rattle.scan_model.specs.Files.{FileMap}
use Rattle.scan_model.specs.TokenTests.{same}
use Rattle.scan_model.specs.Answer.{Answer, Known, answer, looked, answer_by, looked_by}
use Rattle.unit_laws.specs.Reduction.{Given, reduced}
use Rattle.unit_laws.specs.Growth.{Extends, Begins}

-- ## What a unit knows: the answers so far, as a map of lists of lines

-- the whole files have all that is known
abbrev pub IsKnownOf : FileMap (List Line) → FileMap (List ℕ) → Type 0
IsKnownOf known files = Extends (List Line) known (reduced files)

abbrev pub known_answer : FileMap (List Line) → Settings → Job → Answer
known_answer = answer_by (λ ls. ls)

abbrev pub known_looked : FileMap (List Line) → Settings → Job → List (List ℕ)
known_looked = looked_by (λ ls. ls)

-- A path that is needed isn't known. The paths so far, of which it is the last, begin what any whole files look at that
-- have all that is known.
abbrev pub AsksNext : Type 0
AsksNext = (known : FileMap (List Line)) (settings : Settings) (job : Job) (path : List ℕ) → known_answer known settings job ≡ Answer.Unread path →
    (known path ≡ None)
    × ((before : List (List ℕ)) × (known_looked known settings job ≡ before ++ path ∷ [])
    × ((files : FileMap (List ℕ)) → IsKnownOf known files → Begins (before ++ path ∷ []) (looked files settings job)))

-- an end is that of any such whole files, and the paths are all that these look at
abbrev pub EndsForAll : Type 0
EndsForAll = (known : FileMap (List Line)) (settings : Settings) (job : Job) (end : UnitEnd) → known_answer known settings job ≡ Known end →
    (files : FileMap (List ℕ)) → IsKnownOf known files →
    (answer files settings job ≡ Known end) × (looked files settings job ≡ known_looked known settings job)

-- ## What a unit was given, as a list of answers

-- the map has what was given of each path
abbrev pub Agrees : FileMap (List ℕ) → List (List ℕ × Given) → Type 0
Agrees files answers = AllByRecursion (λ a. reduced files a.0 ≡ Some a.1) answers

abbrev pub asked : List (List ℕ × Given) → List (List ℕ)
asked answers = map (λ a. a.0) answers

-- while a path is asked: the paths so far, and this one, begin what every agreeing map looks at
abbrev pub AsksFit : Settings → Command → List (List ℕ × Given) → List ℕ → Type 0
AsksFit settings command answers path =
    (files : FileMap (List ℕ)) → Agrees files answers → Begins (asked answers ++ path ∷ []) (looked files settings (JobIs.Run command))

-- an end that isn't want of memory is the answer of every agreeing map, and the paths are all that it looks at
abbrev pub EndFits : Settings → Command → List (List ℕ × Given) → UnitEnd → Type 0
EndFits settings command answers Ends.NoMemory = ⊤
EndFits settings command answers end =
    (files : FileMap (List ℕ)) → Agrees files answers →
    (answer files settings (JobIs.Run command) ≡ Known end) × (looked files settings (JobIs.Run command) ≡ asked answers)

-- the answers as a map, of which the first one of a path counts
abbrev pub known_of : List (List ℕ × Given) → FileMap (List Line)
known_of [] path = None
known_of (a ∷ answers) path = let later = known_of answers path in if same a.0 path then Some a.1 else later

-- a unit may ask a path where the paths so far, and this one, begin what it looks at by the answers
abbrev pub AsksAsKnown : Type 0
AsksAsKnown = (settings : Settings) (command : Command) (answers : List (List ℕ × Given)) (path : List ℕ) →
    Begins (asked answers ++ path ∷ []) (known_looked (known_of answers) settings (JobIs.Run command)) → AsksFit settings command answers path

-- there is one more while a path is needed
abbrev pub AsksFurther : Type 0
AsksFurther = (settings : Settings) (command : Command) (answers : List (List ℕ × Given)) (needed : List ℕ) →
    Begins (asked answers) (known_looked (known_of answers) settings (JobIs.Run command)) →
    known_answer (known_of answers) settings (JobIs.Run command) ≡ Answer.Unread needed →
    (path : List ℕ) × Begins (asked answers ++ path ∷ []) (known_looked (known_of answers) settings (JobIs.Run command))

-- and it may end where the paths so far are all that it looks at by the answers
abbrev pub EndsAsKnown : Type 0
EndsAsKnown = (settings : Settings) (command : Command) (answers : List (List ℕ × Given)) (end : UnitEnd) →
    known_answer (known_of answers) settings (JobIs.Run command) ≡ Known end →
    known_looked (known_of answers) settings (JobIs.Run command) ≡ asked answers → EndFits settings command answers end

-- with further answers what was looked at stays
abbrev pub LookedStays : Type 0
LookedStays = (settings : Settings) (job : Job) (answers more : List (List ℕ × Given)) →
    Begins (known_looked (known_of answers) settings job) (known_looked (known_of (answers ++ more)) settings job)
