-- What callers see of a unit: what it scans, the answers that it was given, what it does next, and how much is left.
use Rattle.std.specs.Prelude.{◌≡◌, ℕ, Bool, true, false, List, [], ◌∷◌, ◌++◌, None}
use Rattle.scan_model.specs.declared.command.Command.{Command}
use Rattle.scan_model.specs.declared.command.Settings.{Settings}
use Rattle.scan_model.specs.declared.command.Job.TheVariants as JobIs
use Rattle.scan_model.specs.declared.unit_end.UnitEnd.{UnitEnd}
use Rattle.scan_model.specs.declared.unit_end.UnitEnd.TheVariants as Ends
use Rattle.scan_model.specs.Files.{FileMap, NoMemory}
use Rattle.scan_model.specs.Answer.{Answer, Known, answer, looked}
use Rattle.unit_laws.specs.Reduction.{Given}
use Rattle.unit_laws.specs.Growth.{Begins}
use Rattle.unit_laws.specs.KnownAnswers.{Agrees, asked}
use Rattle.unit_steps.specs.Work.{Work}

-- ## What comes next

-- it runs; a path is waiting for its answer; it has this end; or it found no memory, which is its end
pub data Phase : Type 0 where
  Runs : Phase
  Asks : List ℕ → Phase
  Over : UnitEnd → Phase
  Spent : Phase

abbrev pub IsAsking : Phase → Type 0
IsAsking (Asks path) = Unit {0}
IsAsking phase = ⊥

-- no path is waiting
abbrev pub IsReady : Phase → Type 0
IsReady (Asks path) = ⊥
IsReady phase = Unit {0}

abbrev pub IsOver : Phase → Type 0
IsOver (Over end) = Unit {0}
IsOver Spent = Unit {0}
IsOver phase = ⊥

abbrev pub is_over : Phase → Bool
is_over (Over end) = true
is_over Spent = true
is_over phase = false

abbrev pub end_of_phase : Phase → UnitEnd
end_of_phase (Over end) = end
end_of_phase phase = Ends.NoMemory

abbrev pub asked_by : Phase → List (List ℕ)
asked_by (Asks path) = path ∷ []
asked_by phase = []

-- ## The unit

pub record UnitView : Type 0 where
  pub command : Command
  pub settings : Settings
  pub answers : List (List ℕ × Given)
  pub phase : Phase
  pub work : Work

-- the same scan, with the same answers
pub record IsSameScan (u v : UnitView) : Type 0 where
  pub command : v.command ≡ u.command
  pub settings : v.settings ≡ u.settings
  pub answers : v.answers ≡ u.answers

-- what it becomes with an answer for the path that is waiting: with want of memory that is its end
abbrev pub phase_after : Given → Phase
phase_after NoMemory = Over Ends.NoMemory
phase_after content = Runs

-- the answer, with the path that is waiting
abbrev pub told : Phase → Given → List (List ℕ × Given)
told (Asks path) content = (path, content) ∷ []
told phase content = []

abbrev pub given : UnitView → Given → UnitView
given u content = record u { answers = u.answers ++ told u.phase content; phase = phase_after content }

-- ## What a unit says of all whole files

module _ (settings : Settings) (command : Command) (answers : List (List ℕ × Given)) where
  -- the paths, and further ones, begin what every agreeing file map looks at
  abbrev pub BeginsLooks : List (List ℕ) → Type 0
  BeginsLooks further = (files : FileMap (List ℕ)) → Agrees files answers → Begins (asked answers ++ further) (looked files settings (JobIs.Run command))

  -- the end is the answer of every agreeing map, and the paths are all that it looks at
  abbrev pub IsEnd : UnitEnd → Type 0
  IsEnd end = (files : FileMap (List ℕ)) → Agrees files answers →
      (answer files settings (JobIs.Run command) ≡ Known end) × (looked files settings (JobIs.Run command) ≡ asked answers)

  -- where an agreeing map lacks the path, its answer needs it
  abbrev pub NeedsPath : List ℕ → Type 0
  NeedsPath path = (files : FileMap (List ℕ)) → Agrees files answers → files path ≡ None → answer files settings (JobIs.Run command) ≡ Answer.Unread path

  abbrev pub FitsPhase : Phase → Type 0
  FitsPhase (Asks path) = BeginsLooks (path ∷ []) × NeedsPath path
  FitsPhase (Over end) = IsEnd end
  FitsPhase phase = BeginsLooks []

-- at every moment
abbrev pub Fits : UnitView → Type 0
Fits u = FitsPhase u.settings u.command u.answers u.phase
