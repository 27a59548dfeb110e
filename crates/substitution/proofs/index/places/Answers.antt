use Rattle.std.proofs.Common.{◌≡◌, sym, ◌∙◌, ap, ℕ, ◌+◌, ◌-◌, ◌<◌, cond, Some, length, drop, arith}
use Rattle.scan_model.specs.TokenTests.{same}
use Rattle.scan_model.specs.MacroDefinition.{all_params}
use Rattle.substitution.specs.Places.{place_of}
use Rattle.substitution.proofs.PlaceLemmas.{shifted, place-step}
use Rattle.substitution.proofs.index.places.Goals as goal

pub params-preserved : goal.params-preserved
params-preserved c =
    let names = all_params c.args.definition.now.params c.args.definition.now.variadic in
    let k = c.params.place - 1 in
    let name = c.parameter.result.now in
    let later : c.params.place ≡ k + 1 = omega arith in
    let within : k < length names = omega (arith, c.params.invariant.0) in (
      omega (arith, c.params.invariant.0),
      λ q. c.in_ok-insert.ensures.updates.0 (record { ref_ptr = (0, 0); now = q })
          ∙ ap (cond (same name q) (Some k)) (c.params.invariant.1 q ∙ ap (λ (m : ℕ). shifted m (place_of (drop m names) q)) later)
          ∙ sym (place-step names k name q within c.parameter.ensures),
    )
