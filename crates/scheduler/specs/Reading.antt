-- What was read of a file, and what a unit is told of it.
use Rattle.std.specs.Prelude.{◌≡◌, ◌⊎◌, ⊤, ℕ, List, Option, Some, None}
use Rattle.std.specs.declared.alloc.Global.{Global}
use Rattle.std.specs.declared.sync.Arc.{Arc}
use Rattle.std.specs.Arc.{arc_value}
use Rattle.scan_model.specs.declared.Outcome.{Outcome}
use Rattle.scan_model.specs.declared.Outcome.TheVariants as OutcomeIs
use Rattle.scan_model.specs.declared.Line.{Line}
use Rattle.scan_model.specs.Lines.{kept}
use Rattle.scan_model.specs.Files.{Content}
use Rattle.scan_model.specs.Files as file
use Rattle.reducer.specs.declared.Answer.{Answer}
use Rattle.reducer.specs.declared.Answer.TheVariants.{Lines, Absent, Failed, Big, NoMemory}

-- the answer tells of a read with this outcome and these bytes, or memory was wanting for its lines
abbrev pub TellsOf : Outcome → List ℕ → Answer → Type 0
TellsOf outcome bytes (Lines lines) = (outcome ≡ OutcomeIs.Present) × (arc_value lines ≡ kept bytes)
TellsOf outcome bytes Absent = outcome ≡ OutcomeIs.Absent
TellsOf outcome bytes Failed = outcome ≡ OutcomeIs.Failed
TellsOf outcome bytes Big = outcome ≡ OutcomeIs.Big
TellsOf outcome bytes NoMemory = (outcome ≡ OutcomeIs.NoMemory) ⊎ (outcome ≡ OutcomeIs.Present)

abbrev pub lines_of : Answer → Option (Arc (List Line) Global)
lines_of (Lines lines) = Some lines
lines_of Absent = None
lines_of Failed = None
lines_of Big = None
lines_of NoMemory = None

-- what the answer tells of a file with these bytes
abbrev pub told_content : Answer → List ℕ → Content (List ℕ)
told_content (Lines lines) bytes = file.Present bytes
told_content Absent bytes = file.Absent
told_content Failed bytes = file.Failed
told_content Big bytes = file.Big
told_content NoMemory bytes = file.NoMemory

-- its lines are kept of these bytes
abbrev pub HasKept : Answer → List ℕ → Type 0
HasKept (Lines lines) bytes = arc_value lines ≡ kept bytes
HasKept answer bytes = ⊤
