-- The lines that a skip tells stand behind its own.
use Rattle.std.proofs.Common.{◌≡◌, ℕ, ◌+◌, ◌<◌, Bool, true, false, if◌then◌else◌, List, [], ◌∷◌, drop, length, arith, length-drop}
use Rattle.std.specs.List.{AllByRecursion}
use Rattle.scan_model.specs.declared.token.Line.{Line}
use Rattle.scan_model.specs.declared.command.Dialect.{Dialect}
use Rattle.scan_model.specs.declared.skip.Skip.TheVariants.{Broken}
use Rattle.scan_model.specs.declared.directive.Directive.{Directive}
use Rattle.scan_model.specs.declared.directive.Directive.TheVariants.{If, Ifdef, Ifndef, Elif, Elifdef, Elifndef, Else, Endif}
use Rattle.scan_model.specs.Skips.{Nested, Step, Leaves, Ends, step, directive_in, at_end, after_step, skip_from, skip}
use Rattle.unit_steps.specs.Jumps.{IsBehind}

module _ (k n : ℕ) (within : k < n) where
  abbrev Fits : List Nested → Type 0
  Fits inside = AllByRecursion (λ g. (k < g.opener) × (g.opener < n)) inside

  abbrev StepFits : Step → Type 0
  StepFits (Leaves inside) = Fits inside
  StepFits (Ends skip) = IsBehind k n skip

  module _ (j : ℕ) (behind : k < j) (there : j < n) where
    by_else : (b : Bool) (inside : List Nested) → Fits inside → StepFits (if b then Ends (Broken j) else Leaves inside)
    by_else true inside h = (behind, there)
    by_else false inside h = h

    step_fits : (inside : List Nested) (d : Directive) → Fits inside → StepFits (step j inside d)
    step_fits inside If h = ((behind, there), h)
    step_fits inside Ifdef h = ((behind, there), h)
    step_fits inside Ifndef h = ((behind, there), h)
    step_fits [] Elif h = (behind, there)
    step_fits [] Elifdef h = (behind, there)
    step_fits [] Elifndef h = (behind, there)
    step_fits [] Else h = (behind, there)
    step_fits [] Endif h = (behind, there)
    step_fits (g ∷ gs) Elif h = by_else g.past_else (g ∷ gs) h
    step_fits (g ∷ gs) Elifdef h = by_else g.past_else (g ∷ gs) h
    step_fits (g ∷ gs) Elifndef h = by_else g.past_else (g ∷ gs) h
    step_fits (g ∷ gs) Else h = by_else g.past_else (record g { past_else = true } ∷ gs) h
    step_fits (g ∷ gs) Endif h = h.1
    step_fits inside other h = h

  module _ (dialect : Dialect) where
    end_fits : (inside : List Nested) → Fits inside → IsBehind k n (at_end k inside)
    end_fits [] h = (omega arith, within)
    end_fits (g ∷ gs) h = (omega (arith, h.0.0), h.0.1)

    further_fits : (ls : List Line) (j : ℕ) → ((inside : List Nested) → Fits inside → IsBehind k n (skip_from dialect k (j + 1) inside ls)) → (t : Step) → StepFits t →
        IsBehind k n (after_step (λ inside. skip_from dialect k (j + 1) inside ls) t)
    further_fits ls j further (Leaves inside) h = further inside h
    further_fits ls j further (Ends skip) h = h

    from_fits : (ls : List Line) (j : ℕ) (inside : List Nested) → k < j → j + length ls ≡ n → Fits inside → IsBehind k n (skip_from dialect k j inside ls)
    from_fits [] j inside behind all h = end_fits inside h
    from_fits (l ∷ ls) j inside behind all h =
        further_fits ls j (λ after fit. from_fits ls (j + 1) after (omega (arith, behind)) (omega (arith, all)) fit) (step j inside (directive_in dialect l.toks))
        (step_fits j behind (omega (arith, all)) inside (directive_in dialect l.toks) h)

pub skip_behind : (ls : List Line) (k : ℕ) (dialect : Dialect) → k < length ls → IsBehind k (length ls) (skip ls k dialect)
unfolding skip
skip_behind ls k dialect within =
    let left = length-drop (k + 1) ls in
    from_fits k (length ls) within dialect (drop (k + 1) ls) (k + 1) [] (omega arith) (omega (arith, left, within)) tt
