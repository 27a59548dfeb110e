-- What a skip leaves of the lines of a file.
use Rattle.std.specs.Prelude.{ℕ, ◌<◌, ◌≤◌, ◌==◌, if◌then◌else◌, List}
use Rattle.scan_model.specs.declared.token.Line.{Line}
use Rattle.scan_model.specs.declared.skip.Skip.{Skip}
use Rattle.scan_model.specs.declared.skip.Skip.TheVariants.{Partner, Broken, Open}
use Rattle.scan_model.specs.declared.unit_end.FaultKind.TheVariants as FaultIs
use Rattle.scan_model.specs.declared.unit_end.UnitEnd.{UnitEnd}
use Rattle.scan_model.specs.declared.unit_end.UnitEnd.TheVariants as Ends
use Rattle.scan_model.specs.State.{Group}
use Rattle.unit_laws.specs.Skipping.{line_at, opening_line}

-- a skip from the place k among n lines tells a place behind that one, or that one where it is open
abbrev pub IsBehind : ℕ → ℕ → Skip → Type 0
IsBehind k n (Partner j) = (k < j) × (j < n)
IsBehind k n (Broken j) = (k < j) × (j < n)
IsBehind k n (Open m) = (k ≤ m) × (m < n)

-- the end of a unit whose conditionals are unbalanced at this line of the file
abbrev pub unbalanced_at : List ℕ → ℕ → UnitEnd
unbalanced_at path line = Ends.Stopped (record { kind = FaultIs.Unbalanced; place = record { path = path; line = line } })

-- the line of the innermost conditional that the file's end leaves open, where a skip from the place k tells the place m
abbrev pub left_open : List Line → ℕ → ℕ → List Group → ℕ
left_open ls k m groups = if m == k then opening_line groups else line_at ls m
