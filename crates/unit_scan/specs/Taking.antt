-- A line of the file at the top of the stack is taken.
use Rattle.std.specs.Prelude.{◌≡◌, ℕ, ◌+◌, ◌<◌, ◌≤◌, List, [], ◌∷◌, ◌++◌, length, slice_get, Some, None}
use Rattle.scan_model.specs.declared.token.Line.{Line}
use Rattle.scan_model.specs.declared.command.Command.{Command}
use Rattle.scan_model.specs.declared.command.Setting.{Setting}
use Rattle.scan_model.specs.declared.command.Dialect.{Dialect}
use Rattle.scan_model.specs.DirectiveLines.{effect}
use Rattle.scan_model.specs.Lines.{kept}
use Rattle.scan_model.specs.WholeUnit.{command_line, setting_text}
use Rattle.reducer.specs.ReducedLines.{toks_of}
use Rattle.unit_laws.specs.Reduction.{Given}
use Rattle.plain_lines.specs.declared.kept_line.KeptLine.{KeptLine}
use Rattle.plain_lines.specs.declared.action.Action.{Action}
use Rattle.plain_lines.specs.declared.state.FileState.{FileState}
use Rattle.plain_lines.specs.declared.state.UnitState.{UnitState}
use Rattle.plain_lines.specs.Lines.{line_of}
use Rattle.plain_lines.specs.Actions.{Acts}
use Rattle.unit_steps.specs.Logs.{lines_at, path_at}
use Rattle.unit_scan.specs.declared.parts.OpenFile.{OpenFile}
use Rattle.unit_scan.specs.declared.parts.Run.{Run}
use Rattle.unit_scan.specs.Parts.{told}

-- it is the next line of the file
pub record IsNext (answers : List (List ℕ × Given)) (dialect : Dialect) (file : OpenFile) (at : KeptLine) : Type 0 where
  pub line : slice_get (lines_at answers file.answer) file.next ≡ Some (line_of at)
  pub path : at.path.now ≡ path_at answers file.answer
  pub edition : at.dialect ≡ dialect

-- it does to the file and to the unit what the definitions say
abbrev pub ActsAt : List (List ℕ × Given) → Dialect → OpenFile → UnitState → OpenFile → UnitState → Action → Type 0
ActsAt answers dialect file state file' state' action =
    (at : KeptLine) × (IsNext answers dialect file at × Acts at (λ files setup c. effect files setup c (line_of at)) file.state state file'.state state' action)

-- the file at the top has a further line
pub record HasFurther (run : Run) : Type 0 where
  pub below : List OpenFile
  pub file : OpenFile
  pub stack : run.stack.items ≡ below ++ file ∷ []
  pub further : file.next < length (lines_at (told run) file.answer)

-- or it has none
pub record IsAtEnd (run : Run) : Type 0 where
  pub below : List OpenFile
  pub file : OpenFile
  pub stack : run.stack.items ≡ below ++ file ∷ []
  pub over : length (lines_at (told run) file.answer) ≤ file.next

-- the first of these lines, outside all files and with this number, does to the unit what the definitions say
pub record ActsOutside (lines : List Line) (number : ℕ) (dialect : Dialect) (state state' : UnitState) (action : Action) : Type 0 where
  pub at : KeptLine
  pub before : FileState
  pub after : FileState
  pub line : line_of at ≡ record { toks = toks_of lines 0; line = number; next = number + 1 }
  pub path : at.path.now ≡ command_line
  pub edition : at.dialect ≡ dialect
  pub site : before.site ≡ None
  pub groups : before.groups.items ≡ []
  pub chain_place : before.chain_place ≡ None
  pub acts : Acts at (λ files setup c. effect files setup c (line_of at)) before state after state' action

-- the setting of this number, from 0
abbrev pub SettingActs : Command → ℕ → UnitState → UnitState → Action → Type 0
SettingActs command k state state' action =
    (setting : Setting) × ((slice_get command.settings k ≡ Some setting) × ActsOutside (kept (setting_text setting)) (k + 1) command.dialect state state' action)
