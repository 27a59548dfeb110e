-- What a unit is made of, as a moment of the definitions.
use Rattle.std.specs.Prelude.{ℕ, ◌+◌, ◌-◌, ◌<◌, ◌≤◌, ◌^◌, List, [], ◌∷◌, map, reverse, drop, length, slice_get, Option, None}
use Rattle.std.specs.List.{AllByRecursion}
use Rattle.std.specs.Option.{option_map_or}
use Rattle.scan_model.specs.declared.token.Line.{Line}
use Rattle.scan_model.specs.declared.command.Command.{Command}
use Rattle.scan_model.specs.State.{Setup}
use Rattle.scan_model.specs.TokenTests.{is_among}
use Rattle.unit_laws.specs.Reduction.{Given}
use Rattle.macro_table.specs.Table.{macros_of}
use Rattle.reducer.specs.Answers.{content_of}
use Rattle.plain_lines.specs.States.{groups_of, site_of}
use Rattle.unit_steps.specs.Logs.{lines_at, path_at}
use Rattle.unit_steps.specs.Stack.{Frame, Top, Setting_from, Forced_from, Nothing_more}
use Rattle.unit_steps.specs.Searches.{Search}
use Rattle.unit_steps.specs.Moments.{Moment}
use Rattle.unit_steps.specs.Work.{Work, work_at}
use Rattle.scan_model.specs.Fits.{CommandFits, SettingsFit}
use Rattle.unit_scan.specs.declared.parts.Scan.{Scan}
use Rattle.unit_scan.specs.declared.parts.Answered.{Answered}
use Rattle.unit_scan.specs.declared.parts.OpenFile.{OpenFile}
use Rattle.unit_scan.specs.declared.parts.Left.{Left}
use Rattle.unit_scan.specs.declared.parts.Left.TheVariants as LeftIs
use Rattle.unit_scan.specs.declared.parts.Run.{Run}

abbrev pub setup_of : Scan → Setup
setup_of scan = record { settings = scan.settings.now; command = scan.command.now }

-- ## The log

abbrev pub answers_of : List Answered → List (List ℕ × Given)
answers_of log = map (λ a. (a.path, content_of a.answer)) log

-- ## The stack

abbrev pub frame_of : List (List ℕ × Given) → OpenFile → Frame
frame_of answers f = record {
  path = path_at answers f.answer;
  site = site_of (path_at answers f.answer) f.state.site;
  chain_place = f.state.chain_place;
  groups = groups_of f.state.groups.items;
  rest = drop f.next (lines_at answers f.answer);
}

-- the file that is gone through stands last in the code
abbrev pub frames_of : List (List ℕ × Given) → List OpenFile → List Frame
frames_of answers files = map (frame_of answers) (reverse files)

abbrev pub no_line : Line
no_line = record { toks = []; line = 0; next = 0 }

-- the line that was taken last of the file at the top
abbrev pub taken_last : List (List ℕ × Given) → List OpenFile → Line
taken_last answers [] = no_line
taken_last answers (f ∷ fs) = option_map_or (λ l. l) (slice_get (lines_at answers f.answer) (f.next - 1)) no_line

abbrev pub present : List (List ℕ × Given) → List OpenFile → Line
present answers files = taken_last answers (reverse files)

-- ## The moment

abbrev pub top_of : Command → Left → Top
top_of command (LeftIs.Settings k) = Setting_from (k + 1) (drop k command.settings)
top_of command (LeftIs.Forced k) = Forced_from (length command.settings + 1 + k) (drop k command.forced)
top_of command LeftIs.Nothing = Nothing_more

abbrev pub told : Run → List (List ℕ × Given)
told run = answers_of run.log.items

abbrev pub moment_of : Setup → Run → Option Search → Moment
moment_of setup run search = record {
  top = top_of setup.command run.left;
  frames = frames_of (told run) run.stack.items;
  search = search;
  macros = macros_of run.state.macros;
  once = is_among run.state.once;
  entered = run.entered;
  builder = run.state.builder;
}

abbrev pub work_of : Setup → Run → Work
work_of setup run = work_at setup (moment_of setup run None) run.tests run.candidates

-- ## What it keeps

-- a file on the stack is one that was given, and its next line is one of it or its end
pub record IsFile (answers : List (List ℕ × Given)) (f : OpenFile) : Type 0 where
  pub there : f.answer < length answers
  pub next : f.next ≤ length (lines_at answers f.answer)
  pub few : length (lines_at answers f.answer) < 2 ^ 32

abbrev pub IsLeft : Command → Left → Type 0
IsLeft command (LeftIs.Settings k) = k ≤ length command.settings
IsLeft command (LeftIs.Forced k) = k ≤ length command.forced
IsLeft command LeftIs.Nothing = Unit {0}

pub record Sound (setup : Setup) (run : Run) : Type 0 where
  pub command : CommandFits setup.command
  pub settings : SettingsFit setup.settings
  pub files : AllByRecursion (IsFile (told run)) run.stack.items
  pub depth : length run.stack.items ≤ 201
  pub entered : run.entered ≤ 65536
  pub left : IsLeft setup.command run.left
  pub tests : run.tests < 2 ^ 64
  pub candidates : run.candidates < 2 ^ 64
