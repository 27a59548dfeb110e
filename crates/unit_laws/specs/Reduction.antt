-- Kept lines give what whole files give.
use Rattle.std.specs.Prelude.{◌≡◌, ℕ, ⊤, false, List, Option, Some, None}
use Rattle.std.specs.Option.{option_map}
use Rattle.std.specs.List.{filter}
use Rattle.scan_model.specs.declared.token.Line.{Line}
use Rattle.scan_model.specs.declared.unit_end.Place.{Place}
use Rattle.scan_model.specs.declared.command.Settings.{Settings}
use Rattle.scan_model.specs.declared.command.Job.{Job}
use Rattle.scan_model.specs.declared.token.Tok.{Tok}
use Rattle.scan_model.specs.Lines.{kept, is_directive}
use Rattle.scan_model.specs.Files.{FileMap, Content, Present, Absent, Failed, Big, NoMemory}
use Rattle.scan_model.specs.State.{Setup, State, Reached, Going, Stopped}
use Rattle.scan_model.specs.Stream.{Piece, module_lines}
use Rattle.scan_model.specs.Effect.{Enter}
use Rattle.scan_model.specs.WholeFile.{View, end_run, full_line, full_lines, enter}
use Rattle.scan_model.specs.Answer.{answer, looked, answer_by, looked_by}

-- ## Alike

-- the same module and import lines
abbrev pub SameSent : List Piece → List Piece → Type 0
SameSent pieces others = module_lines pieces ≡ module_lines others

-- the same of what directives read and change, and the same module and import lines
abbrev pub Similar : State → State → Type 0
Similar s r = (s.core ≡ r.core) × SameSent s.stream r.stream

-- both go on so, or both stop with one cause, the same looks and the same module and import lines
abbrev pub Alike : Reached → Reached → Type 0
Alike (Going s) (Going r) = Similar s r
Alike (Stopped s) (Stopped r) = (s.cause ≡ r.cause) × (s.looked ≡ r.looked) × SameSent s.stream r.stream
Alike s r = ⊥

-- ## Text

-- a line that is no directive changes the pending run alone
abbrev pub TextKeepsCore : Type 0 → Type 0
TextKeepsCore X = (e : Enter X) (files : FileMap X) (setup : Setup) (s : State) (l : Line) →
    is_directive l ≡ false → (run : List Tok) × (full_line e files setup s l ≡ Going (record s { run = run }))

-- the end of a run changes the run, the counter and the text of the stream
abbrev pub RunKeepsCore : Type 0
RunKeepsCore = (s : State) → Similar (end_run s) s

-- ## Files

-- Two ways to see files, of which the directives are the same: whole files and their kept lines, for one.
module _ (X Y : Type 0) (view : View X) (other : View Y) where
  abbrev pub SameContent : Option (Content X) → Option (Content Y) → Type 0
  SameContent None None = ⊤
  SameContent (Some (Present x)) (Some (Present y)) = filter is_directive (view x) ≡ filter is_directive (other y)
  SameContent (Some Absent) (Some Absent) = ⊤
  SameContent (Some Failed) (Some Failed) = ⊤
  SameContent (Some Big) (Some Big) = ⊤
  SameContent (Some NoMemory) (Some NoMemory) = ⊤
  SameContent content another = ⊥

  -- at every path
  abbrev pub SameFiles : FileMap X → FileMap Y → Type 0
  SameFiles files others = (path : List ℕ) → SameContent (files path) (others path)

  -- Lists of lines with the same directives are gone through alike. So a directive is reached with the same core: take
  -- for the lists what stands before it.
  abbrev pub LinesAlike : Type 0
  LinesAlike = (files : FileMap X) (others : FileMap Y) (setup : Setup) (n : ℕ) (ls ms : List Line) (s r : State) →
      SameFiles files others → filter is_directive ls ≡ filter is_directive ms → Similar s r →
      Alike (full_lines (enter view files setup n) files setup ls s) (full_lines (enter other others setup n) others setup ms r)

  -- and so are whole files, with all that is entered from them
  abbrev pub FileAlike : Type 0
  FileAlike = (files : FileMap X) (others : FileMap Y) (setup : Setup) (n : ℕ) (place : Place) (path : List ℕ) (chain_place : Option ℕ) (x : X) (y : Y) (s r : State) →
      SameFiles files others → filter is_directive (view x) ≡ filter is_directive (other y) → Similar s r →
      Alike (enter view files setup n place path chain_place x s) (enter other others setup n place path chain_place y r)

-- ## Units

-- the answer and what was looked at are those of the kept lines
abbrev pub KeptAnswers : Type 0
KeptAnswers = (files : FileMap (List ℕ)) (settings : Settings) (job : Job) →
    (answer_by kept files settings job ≡ answer files settings job) × (looked_by kept files settings job ≡ looked files settings job)

-- ## What a unit is given

-- what a unit is given of a path: its kept lines, or another outcome
abbrev pub Given : Type 0
Given = Content (List Line)

abbrev pub reduced_content : Content (List ℕ) → Given
reduced_content (Present bytes) = Present (kept bytes)
reduced_content Absent = Absent
reduced_content Failed = Failed
reduced_content Big = Big
reduced_content NoMemory = NoMemory

-- the map of what a unit may be given
abbrev pub reduced : FileMap (List ℕ) → FileMap (List Line)
reduced files path = option_map reduced_content (files path)

-- a unit over kept lines ends as over the whole files
abbrev pub ReducedAnswers : Type 0
ReducedAnswers = (files : FileMap (List ℕ)) (settings : Settings) (job : Job) →
    (answer_by (λ ls. ls) (reduced files) settings job ≡ answer files settings job)
    × (looked_by (λ ls. ls) (reduced files) settings job ≡ looked files settings job)
