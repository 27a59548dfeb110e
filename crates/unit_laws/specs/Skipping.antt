-- What a skip tells is what going through the lines gives.
use Rattle.std.specs.Prelude.{◌≡◌, ℕ, ◌+◌, ◌==◌, true, if◌then◌else◌, List, [], ◌∷◌, drop}
use Rattle.scan_model.specs.declared.token.Line.{Line}
use Rattle.scan_model.specs.declared.skip.Skip.{Skip}
use Rattle.scan_model.specs.declared.skip.Skip.TheVariants.{Partner, Broken, Open}
use Rattle.scan_model.specs.declared.unit_end.FaultKind.TheVariants as FaultIs
use Rattle.scan_model.specs.Files.{FileMap}
use Rattle.scan_model.specs.State.{Group, Setup, Core, State, Reached, then_go}
use Rattle.scan_model.specs.Effect.{Enter, halted, fault}
use Rattle.scan_model.specs.Conditionals.{is_skipped}
use Rattle.scan_model.specs.Skips.{skip}
use Rattle.scan_model.specs.WholeFile.{end_run, full_lines, at_file_end}
use Rattle.unit_laws.specs.Reduction.{Similar, Alike}

-- the number of the line at the place k
abbrev pub first_line : List Line → ℕ
first_line [] = 0
first_line (l ∷ ls) = l.line

abbrev pub line_at : List Line → ℕ → ℕ
line_at ls k = first_line (drop k ls)

-- the line of the innermost open conditional
abbrev pub opening_line : List Group → ℕ
opening_line [] = 0
opening_line (g ∷ gs) = g.line

-- Unbalanced at this line of the current file, with nothing changed before it
abbrev pub unbalanced : State → ℕ → Reached
unbalanced s line = halted (fault FaultIs.Unbalanced (record { path = s.core.path; line = line })) s.core.looked s

-- the end of the file, after its lines
abbrev pub ended : Core → Reached → Reached
ended includer reached = then_go (λ last. at_file_end includer (end_run last) last.core.stack) reached

module _ (X : Type 0) where
  -- What a skip from the line at the place k tells of the lines after it, gone through from the state s. The partner is
  -- reached with the same core, and the same module and import lines; a broken conditional stops the unit there; and
  -- an open one does so at the end of the file. The line of the skip's own conditional is the one that the state has.
  abbrev pub Tells : Enter X → FileMap X → Setup → List Line → ℕ → State → Skip → Type 0
  Tells e files setup ls k s (Partner j) =
      (r : State) × Similar r s × (full_lines e files setup (drop (k + 1) ls) s ≡ full_lines e files setup (drop j ls) r)
  Tells e files setup ls k s (Broken j) = Alike (full_lines e files setup (drop (k + 1) ls) s) (unbalanced s (line_at ls j))
  Tells e files setup ls k s (Open m) =
      (includer : Core) → Alike (ended includer (full_lines e files setup (drop (k + 1) ls) s))
      (unbalanced s (if m == k then opening_line s.core.stack else line_at ls m))

  -- in a group that isn't live
  abbrev pub SkipTells : Type 0
  SkipTells = (e : Enter X) (files : FileMap X) (setup : Setup) (ls : List Line) (k : ℕ) (s : State) → is_skipped s.core.stack ≡ true →
      Tells e files setup ls k s (skip ls k setup.command.dialect)
