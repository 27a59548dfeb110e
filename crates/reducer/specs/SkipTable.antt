-- Where the lines after each line lead, by the directives of the lines alone ([cpp.cond]).
use Rattle.std.specs.Prelude.{◌≡◌, ℕ, ◌+◌, ◌<◌, ◌≤◌, ◌==◌, Bool, true, false, if◌then◌else◌, List, [], ◌∷◌, drop, length, slice_get, Some}
use Rattle.scan_model.specs.declared.skip.Skip.{Skip}
use Rattle.scan_model.specs.declared.skip.Skip.TheVariants.{Partner, Broken, Open}
use Rattle.scan_model.specs.declared.directive.Directive.{Directive}
use Rattle.scan_model.specs.declared.directive.Directive.TheVariants.{If, Ifdef, Ifndef, Elif, Elifdef, Elifndef, Else, Endif}
use Rattle.scan_model.specs.Skips.{Nested, step, after_step, at_end}

-- the directive begins a conditional
abbrev pub opens : Directive → Bool
opens If = true
opens Ifdef = true
opens Ifndef = true
opens other = false

-- the directive ends a group of the innermost conditional
abbrev pub closes : Directive → Bool
closes Elif = true
closes Elifdef = true
closes Elifndef = true
closes Else = true
closes Endif = true
closes other = false

abbrev pub is_else : Directive → Bool
is_else Else = true
is_else other = false

abbrev pub is_endif : Directive → Bool
is_endif Endif = true
is_endif other = false

-- over the lines from the place j on, after the one at the place k
abbrev pub skip_over : ℕ → ℕ → List Nested → List Directive → Skip
skip_over k j inside [] = at_end k inside
skip_over k j inside (d ∷ ds) = after_step (λ inside. skip_over k (j + 1) inside ds) (step j inside d)

-- over the lines after the one at the place k
unfoldable pub skip_among : List Directive → ℕ → Skip
skip_among ds k = skip_over k (k + 1) [] (drop (k + 1) ds)

-- what the line at the place `of` finds, for a line at the place k that comes to it with nothing open inside
abbrev pub seen_from : Skip → ℕ → ℕ → Skip
seen_from (Partner line) of k = Partner line
seen_from (Broken line) of k = Broken line
seen_from (Open line) of k = Open (if line == of then k else line)

-- the list has an entry for each line, and those from a place on are right
pub record HasSkips (ds : List Directive) (from : ℕ) (skips : List Skip) : Type 0 where
  pub whole : length skips ≡ length ds
  pub each : (k : ℕ) → from ≤ k → k < length ds → slice_get skips k ≡ Some (skip_among ds k)

-- the list has each line's entry
abbrev pub AreSkips : List Directive → List Skip → Type 0
AreSkips ds skips = HasSkips ds 0 skips
