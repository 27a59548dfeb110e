-- How much is left to a unit: a measure that falls from each path that it asks to the next.
use Rattle.std.specs.Prelude.{ℕ, ◌+◌, ◌-◌, ◌*◌, ◌^◌, ◌<◌, List, [], ◌∷◌, length}
use Rattle.scan_model.specs.State.{Setup}
use Rattle.scan_model.specs.WholeFile.{entered_limit}
use Rattle.unit_steps.specs.Stack.{Frame, Top, Setting_from, Forced_from, Nothing_more}
use Rattle.unit_steps.specs.Moments.{Moment}

-- Four numbers, compared from the left: the files that may still be entered; the lines left on the stack, with the
-- settings, forced files and main file that aren't begun; the `__has_include`s and `__has_include_next`s left on the
-- present line; and the candidates left in the present search.
pub record Work : Type 0 where
  pub files : ℕ
  pub lines : ℕ
  pub tests : ℕ
  pub candidates : ℕ

-- the four as one number, by which a loop ends
abbrev pub rank : Work → ℕ
rank w = ((w.files * 2 ^ 64 + w.lines) * 2 ^ 64 + w.tests) * 2 ^ 64 + w.candidates

-- each but the first is below 2 ^ 64
pub record IsMeasured (w : Work) : Type 0 where
  pub lines : w.lines < 2 ^ 64
  pub tests : w.tests < 2 ^ 64
  pub candidates : w.candidates < 2 ^ 64

-- ## At a moment

-- the settings, forced files and main file that aren't begun
abbrev pub not_begun : Setup → Top → ℕ
not_begun setup (Setting_from number settings) = length settings + length setup.command.forced + 1
not_begun setup (Forced_from number names) = length names + 1
not_begun setup Nothing_more = 0

-- the lines left on the stack
abbrev pub lines_left : List Frame → ℕ
lines_left [] = 0
lines_left (f ∷ fs) = length f.rest + lines_left fs

-- with these `__has_include`s and candidates
abbrev pub work_at : Setup → Moment → ℕ → ℕ → Work
work_at setup m tests candidates = record {
  files = entered_limit - m.entered;
  lines = lines_left m.frames + not_begun setup m.top;
  tests = tests;
  candidates = candidates;
}
