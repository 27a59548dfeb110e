-- The laws of the steps of a unit over kept lines.
use Rattle.std.specs.Prelude.{◌≡◌, ℕ, ◌+◌, ◌<◌, ◌≤◌, true, List, [], ◌∷◌, ◌++◌, drop, length, slice_get, Option, Some, None}
use Rattle.scan_model.specs.declared.token.Line.{Line}
use Rattle.scan_model.specs.declared.skip.Skip.{Skip}
use Rattle.scan_model.specs.declared.skip.Skip.TheVariants.{Partner, Broken, Open}
use Rattle.scan_model.specs.declared.command.Command.{Command}
use Rattle.scan_model.specs.declared.command.Setting.{Setting}
use Rattle.scan_model.specs.declared.command.Settings.{Settings}
use Rattle.scan_model.specs.declared.command.Job.TheVariants as JobIs
use Rattle.scan_model.specs.declared.unit_end.Place.{Place}
use Rattle.scan_model.specs.declared.unit_end.UnitEnd.{UnitEnd}
use Rattle.scan_model.specs.declared.unit_end.UnitEnd.TheVariants as Ends
use Rattle.scan_model.specs.declared.unit_end.FaultKind.TheVariants as FaultIs
use Rattle.scan_model.specs.HeaderName.{Named}
use Rattle.scan_model.specs.Candidates.{chain, place}
use Rattle.scan_model.specs.Files.{FileMap, Present}
use Rattle.scan_model.specs.Lines.{lines}
use Rattle.scan_model.specs.WholeUnit.{setting_text}
use Rattle.unit_steps.specs.Settings.{BeginsWithDirective, directive_of_setting}
use Rattle.scan_model.specs.State.{Group, Setup, Core, Cause}
use Rattle.scan_model.specs.Search.{place_searched}
use Rattle.scan_model.specs.Effect.{Now, Enters, Halts}
use Rattle.scan_model.specs.Conditionals.{is_skipped}
use Rattle.scan_model.specs.DirectiveLines.{effect}
use Rattle.scan_model.specs.Skips.{skip}
use Rattle.scan_model.specs.WholeFile.{entered_limit}
use Rattle.scan_model.specs.Answer.{Known, answer_of, looked}
use Rattle.unit_laws.specs.Reduction.{Given}
use Rattle.unit_laws.specs.KnownAnswers.{Agrees, asked}
use Rattle.unit_laws.specs.Skipping.{line_at}
use Rattle.unit_steps.specs.Stack.{Frame, Nothing_more, next_depth}
use Rattle.unit_steps.specs.Searches.{Search, first_search, on_given}
use Rattle.unit_steps.specs.Moments.{Moment, core_at, first_moment, with_rest, after_line, in_file}
use Rattle.unit_steps.specs.Jumps.{IsBehind, unbalanced_at, left_open}
use Rattle.unit_steps.specs.Stands.{AreKept, Agree, AreLines, Acts, Stands, StandsAtEnd, IsCandidate}
use Rattle.unit_steps.specs.Work.{Work, rank, IsMeasured}
use Rattle.unit_steps.specs.UnitView.{UnitView, Asks, Over, Fits, FitsPhase}
use Rattle.scan_model.specs.Fits.{CommandFits, SettingsFit}

-- ## The steps

-- before any answer the first moment stands for the whole unit; where there are predefines, they are looked for
abbrev pub BeginsStanding : Type 0
BeginsStanding = (setup : Setup) →
    (setup.settings.predefines ≡ None → Stands setup (first_moment setup None) [])
    × ((path : List ℕ) → setup.settings.predefines ≡ Some path → Stands setup (first_moment setup (Some (first_search FaultIs.IncludeNotFound path))) [])

-- a line that changes what directives see leaves what it made of that, and the lines that follow
abbrev pub LinesGoOn : Type 0
LinesGoOn = (setup : Setup) (m : Moment) (answers : List (List ℕ × Given)) (f : Frame) (fs : List Frame) (l : Line) (ls : List Line) (c : Core) →
    m.frames ≡ f ∷ fs → f.rest ≡ l ∷ ls → m.search ≡ None → Stands setup m answers → c.looked ≡ asked answers →
    ((files : FileMap (List Line)) → effect files setup (core_at (with_rest m f fs ls) (asked answers)) l ≡ Now c) → Stands setup (after_line m fs ls c) answers

-- the text of a `-D` or `-U` has a line, and the first one is a `#define` or `#undef`
abbrev pub SettingsAreDirectives : Type 0
SettingsAreDirectives = (setting : Setting) →
    (l : Line) × ((ls : List Line) × ((lines (setting_text setting) ≡ l ∷ ls) × BeginsWithDirective (directive_of_setting setting) l))

-- an effect that stops the unit is its end
abbrev pub StopsAreEnds : Type 0
StopsAreEnds = (setup : Setup) (m : Moment) (answers : List (List ℕ × Given)) (cause : Cause) (end : UnitEnd) → answer_of cause ≡ Known end →
    Acts setup m answers (λ files c. Halts cause c) → StandsAtEnd setup end answers

-- an answer for the path that is sought leaves what it makes of the search
abbrev pub AnswersGoOn : Type 0
AnswersGoOn = (setup : Setup) (m : Moment) (answers : List (List ℕ × Given)) (sought : Search) (p : List ℕ) (ps : List (List ℕ)) (content : Given) →
    m.search ≡ Some sought → sought.paths ≡ p ∷ ps → Stands setup m answers →
    Acts setup m (answers ++ (p, content) ∷ []) (λ files c. on_given files setup sought.aim sought.place p ps content c)

-- a file that is found has the place in the chain that the candidate of its number gives
abbrev pub FoundHasPlace : Type 0
FoundHasPlace = (setup : Setup) (answers : List (List ℕ × Given)) (n : Named) (from : List ℕ) (k : ℕ) (p : List ℕ) (text : List Line) → IsCandidate setup answers n from k p →
    (files : FileMap (List Line)) → AreKept files → Agree files (answers ++ (p, Present text) ∷ []) → place_searched setup n from p ≡ place setup.command.search n.form n.name k

-- a file is entered where it is neither too deep nor one too many
abbrev pub EntersFile : Type 0
EntersFile = (setup : Setup) (m : Moment) (answers : List (List ℕ × Given)) (fault_place : Place) (path : List ℕ) (chain_place : Option ℕ) (text : List Line) →
    Acts setup m answers (λ files c. Enters fault_place path chain_place text c) → next_depth m.top m.frames ≤ 200 → m.entered < entered_limit → AreLines answers text →
    Stands setup (in_file path chain_place text m) answers

-- a file that ends leaves the one below; where a conditional is open the unit ends
abbrev pub EndsFile : Type 0
EndsFile = (setup : Setup) (m : Moment) (answers : List (List ℕ × Given)) (f : Frame) (fs : List Frame) → m.frames ≡ f ∷ fs → f.rest ≡ [] → m.search ≡ None → Stands setup m answers →
    (f.groups ≡ [] → Stands setup (record m { frames = fs; search = None }) answers)
    × ((g : Group) (gs : List Group) → f.groups ≡ g ∷ gs → StandsAtEnd setup (unbalanced_at f.path g.line) answers)

-- what a skip leaves of the file at the top, over its other lines
abbrev pub SkipLeaves : Setup → Moment → List (List ℕ × Given) → Frame → List Frame → List Line → ℕ → Skip → Type 0
SkipLeaves setup m answers f fs ls k (Partner j) = Stands setup (with_rest m f fs (drop j ls)) answers
SkipLeaves setup m answers f fs ls k (Broken j) = StandsAtEnd setup (unbalanced_at f.path (line_at ls j)) answers
SkipLeaves setup m answers f fs ls k (Open n) = StandsAtEnd setup (unbalanced_at f.path (left_open ls k n f.groups)) answers

-- in a conditional that isn't live, from its line at the place k
abbrev pub JumpsStand : Type 0
JumpsStand = (setup : Setup) (m : Moment) (answers : List (List ℕ × Given)) (f : Frame) (fs : List Frame) (ls : List Line) (k : ℕ) →
    m.frames ≡ f ∷ fs → f.rest ≡ drop (k + 1) ls → is_skipped f.groups ≡ true → m.search ≡ None → k < length ls → Stands setup m answers →
    SkipLeaves setup m answers f fs ls k (skip ls k setup.command.dialect)

-- nothing is left: the record is the end
abbrev pub UnitEnds : Type 0
UnitEnds = (setup : Setup) (m : Moment) (answers : List (List ℕ × Given)) → m.top ≡ Nothing_more → m.frames ≡ [] → m.search ≡ None → Stands setup m answers →
    StandsAtEnd setup (Ends.Record m.builder.so_far) answers

-- ## What a unit says of whole files

-- the path that is sought comes next in what all agreeing whole files look at, and those that lack it need it
abbrev pub SoughtIsNeeded : Type 0
SoughtIsNeeded = (setup : Setup) (m : Moment) (answers : List (List ℕ × Given)) (sought : Search) (p : List ℕ) (ps : List (List ℕ)) →
    m.search ≡ Some sought → sought.paths ≡ p ∷ ps → Stands setup m answers → FitsPhase setup.settings setup.command answers (Asks p)

-- the end is that of all agreeing whole files
abbrev pub EndIsTheirs : Type 0
EndIsTheirs = (setup : Setup) (end : UnitEnd) (answers : List (List ℕ × Given)) → StandsAtEnd setup end answers → FitsPhase setup.settings setup.command answers (Over end)

-- a unit with k answers waits for the path that comes as the k-th, from 0, in what any agreeing map looks at
abbrev pub KthLooked : Type 0
KthLooked = (u : UnitView) (path : List ℕ) (files : FileMap (List ℕ)) → u.phase ≡ Asks path → Fits u → Agrees files u.answers →
    slice_get (looked files u.settings (JobIs.Run u.command)) (length u.answers) ≡ Some path

-- ## What is left

-- the work falls by its first number that does
abbrev pub RankFalls : Type 0
RankFalls = (w v : Work) → IsMeasured w →
    (w.files < v.files → rank w < rank v)
    × (w.files ≡ v.files → w.lines < v.lines → rank w < rank v)
    × (w.files ≡ v.files → w.lines ≡ v.lines → w.tests < v.tests → rank w < rank v)
    × (w.files ≡ v.files → w.lines ≡ v.lines → w.tests ≡ v.tests → w.candidates < v.candidates → rank w < rank v)

-- each place in the chain of folders, and one more, is a u32
abbrev pub FoldersHaveNumbers : Type 0
FoldersHaveNumbers = (command : Command) (settings : Settings) → CommandFits command → SettingsFit settings → length (chain command.search settings.program) < 4294967295

-- the line that a skip tells stands behind its own, or is its own where that one is open
abbrev pub SkipsAreBehind : Type 0
SkipsAreBehind = (setup : Setup) (ls : List Line) (k : ℕ) → k < length ls → IsBehind k (length ls) (skip ls k setup.command.dialect)
