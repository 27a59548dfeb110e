-- What stands on the stack of a unit over kept lines, and what isn't begun yet.
use Rattle.std.specs.Prelude.{ℕ, ◌+◌, List, [], ◌∷◌, length, Option, None}
use Rattle.scan_model.specs.declared.token.Line.{Line}
use Rattle.scan_model.specs.declared.expansion.Site.{Site}
use Rattle.scan_model.specs.declared.command.Setting.{Setting}
use Rattle.scan_model.specs.declared.unit_end.FaultKind.TheVariants as FaultIs
use Rattle.scan_model.specs.Files.{FileMap}
use Rattle.scan_model.specs.Site.{first_site}
use Rattle.scan_model.specs.State.{Group, Setup, Core, State, Reached, Going, then_go}
use Rattle.scan_model.specs.Effect.{Enter}
use Rattle.scan_model.specs.WholeFile.{View, end_run, full_lines, at_file_end, enter_at_depth}
use Rattle.scan_model.specs.WholeUnit.{command_line, first_file, set_all, force_all}

-- kept lines are seen as they are
abbrev pub as_they_are : View (List Line)
as_they_are ls = ls

-- ## The stack

-- A file that is being gone through: what it has of its own where the unit is in it or comes back to it, and the lines
-- that follow there.
pub record Frame : Type 0 where
  pub path : List ℕ
  pub site : Site
  pub chain_place : Option ℕ
  pub groups : List Group
  pub rest : List Line

-- what stands around the first files: the command line
abbrev pub outside : Frame
outside = record { path = command_line; site = first_site command_line; chain_place = None; groups = []; rest = [] }

-- the file at the top of the stack
abbrev pub current : List Frame → Frame
current [] = outside
current (f ∷ fs) = f

-- the state with the file's own parts in place of the present ones
abbrev pub within : Frame → Core → Core
within f c = record c { path = f.path; site = f.site; chain_place = f.chain_place; stack = f.groups }

-- What follows the files on the stack: the settings from this number on, all forced files and the main file; the forced
-- files from this number on and the main file; or nothing. A file at the bottom of the stack is then the predefines, a
-- forced file, or the main file.
pub data Top : Type 0 where
  Setting_from : ℕ → List Setting → Top
  Forced_from : ℕ → List (List ℕ) → Top
  Nothing_more : Top

-- how deep the file at the bottom of the stack is
abbrev pub first_depth : Top → ℕ
first_depth (Setting_from number settings) = 0
first_depth (Forced_from number names) = 1
first_depth Nothing_more = 0

-- how deep a file is that is entered next
abbrev pub next_depth : Top → List Frame → ℕ
next_depth top fs = first_depth top + length fs

-- ## What follows

module _ (files : FileMap (List Line)) (setup : Setup) where
  -- enters the next file
  abbrev pub entering : Top → List Frame → Enter (List Line)
  entering top fs = enter_at_depth as_they_are files setup (next_depth top fs)

  abbrev pub main_file : State → Reached
  main_file s = first_file as_they_are files setup FaultIs.MainMissing setup.command.main s

  abbrev pub forced_files : ℕ → List (List ℕ) → State → Reached
  forced_files number names s = force_all as_they_are files setup number names s

  -- what isn't begun
  abbrev pub after_top : Top → State → Reached
  after_top (Setting_from number settings) s =
      then_go main_file (then_go (forced_files (length setup.command.settings + 1) setup.command.forced) (set_all files setup number settings s))
  after_top (Forced_from number names) s = then_go main_file (forced_files number names s)
  after_top Nothing_more s = Going s

  -- the end of the file over these ones
  abbrev pub closing : List Frame → State → Reached
  closing fs last = at_file_end (within (current fs) last.core) (end_run last) last.core.stack

  -- the rest of all files on the stack, and of what isn't begun, from a state in the file at the top
  abbrev pub rest_of_all : Top → List Frame → State → Reached
  rest_of_all top [] s = after_top top s
  rest_of_all top (f ∷ fs) s = then_go (rest_of_all top fs) (then_go (closing fs) (full_lines (entering top (f ∷ fs)) files setup f.rest s))
