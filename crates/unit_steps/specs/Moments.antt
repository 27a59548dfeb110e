-- A moment of a unit over kept lines: what stands on its stack, what isn't begun yet, and what is looked for.
use Rattle.std.specs.Prelude.{ℕ, ◌+◌, Bool, false, List, [], ◌∷◌, Option, Some, None}
use Rattle.scan_model.specs.declared.token.Line.{Line}
use Rattle.scan_model.specs.Files.{FileMap}
use Rattle.scan_model.specs.Macros.{Macros, first_macros}
use Rattle.scan_model.specs.ModuleLines.{Builder, new}
use Rattle.scan_model.specs.Site.{first_site}
use Rattle.scan_model.specs.State.{Setup, Core, State, Reached, then_go}
use Rattle.scan_model.specs.Effect.{done}
use Rattle.unit_steps.specs.Stack.{Frame, Top, Setting_from, current, entering, rest_of_all}
use Rattle.unit_steps.specs.Searches.{Search, searching}

pub record Moment : Type 0 where
  pub top : Top
  pub frames : List Frame
  pub search : Option Search
  pub macros : Macros
  pub once : List ℕ → Bool
  pub entered : ℕ
  pub builder : Builder

-- what directives see at this moment, after these looks
abbrev pub core_at : Moment → List (List ℕ) → Core
core_at m looked = record {
  path = (current m.frames).path;
  site = (current m.frames).site;
  chain_place = (current m.frames).chain_place;
  stack = (current m.frames).groups;
  macros = m.macros;
  once = m.once;
  entered = m.entered;
  looked = looked;
}

-- how the unit goes on from the moment and a state
abbrev pub goes_on : FileMap (List Line) → Setup → Top → List Frame → Option Search → State → Reached
goes_on files setup top fs None s = rest_of_all files setup top fs s
goes_on files setup top fs (Some search) s =
    then_go (rest_of_all files setup top fs) (done (entering files setup top fs) s (searching files setup search.aim search.place search.paths s.core))

-- ## Moments that follow one another

-- before any look
abbrev pub first_moment : Setup → Option Search → Moment
first_moment setup search = record {
  top = Setting_from 1 setup.command.settings;
  frames = [];
  search = search;
  macros = first_macros setup.command.dialect;
  once = λ path. false;
  entered = 0;
  builder = new setup.command.output setup.command.source;
}

-- the file at the top has these lines left
abbrev pub with_rest : Moment → Frame → List Frame → List Line → Moment
with_rest m f fs ls = record m { frames = record f { rest = ls } ∷ fs; search = None }

-- a line of the file at the top has changed what directives see; the files fs stand below, and these lines follow
abbrev pub after_line : Moment → List Frame → List Line → Core → Moment
after_line m fs ls c = record m {
  frames = record { path = c.path; site = c.site; chain_place = c.chain_place; groups = c.stack; rest = ls } ∷ fs;
  search = None;
  macros = c.macros;
  once = c.once;
  entered = c.entered;
}

-- at the start of a file that is entered
abbrev pub file_frame : List ℕ → Option ℕ → List Line → Frame
file_frame path chain_place text = record { path = path; site = first_site path; chain_place = chain_place; groups = []; rest = text }

abbrev pub in_file : List ℕ → Option ℕ → List Line → Moment → Moment
in_file path chain_place text m = record m { frames = file_frame path chain_place text ∷ m.frames; search = None; entered = m.entered + 1 }
