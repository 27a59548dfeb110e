-- Where the lines lead after a group that isn't taken.
use Rattle.std.specs.Prelude.{ℕ, ◌-◌, List, [], ◌∷◌}
use Rattle.std.specs.declared.result.Result.{Result}
use Rattle.std.specs.declared.result.Result.TheVariants.{Ok, Err}
use Rattle.scan_model.specs.declared.token.Line.{Line}
use Rattle.scan_model.specs.declared.skip.Skip.{Skip}
use Rattle.scan_model.specs.declared.skip.Skip.TheVariants.{Partner, Broken, Open}
use Rattle.scan_model.specs.declared.command.Dialect.{Dialect}
use Rattle.scan_model.specs.State.{Group}
use Rattle.scan_model.specs.Skips.{skip}
use Rattle.unit_laws.specs.Reduction.{Given}
use Rattle.unit_laws.specs.Skipping.{line_at}
use Rattle.plain_lines.specs.States.{groups_of}
use Rattle.unit_steps.specs.Logs.{lines_at}
use Rattle.unit_steps.specs.Jumps.{left_open}
use Rattle.unit_scan.specs.declared.parts.OpenFile.{OpenFile}

-- from the line at the place k of these lines: to the line of a place, or, as `Err`, to the line at which the conditionals
-- are unbalanced
abbrev pub landing : List Line → ℕ → List Group → Skip → Result ℕ ℕ
landing ls k groups (Partner j) = Ok j
landing ls k groups (Broken j) = Err (line_at ls j)
landing ls k groups (Open m) = Err (left_open ls k m groups)

-- from the line of the file at the top that was taken last
abbrev pub top_landing : Dialect → List (List ℕ × Given) → List OpenFile → Result ℕ ℕ
top_landing dialect answers [] = Ok 0
top_landing dialect answers (f ∷ fs) =
    landing (lines_at answers f.answer) (f.next - 1) (groups_of f.state.groups.items) (skip (lines_at answers f.answer) (f.next - 1) dialect)
