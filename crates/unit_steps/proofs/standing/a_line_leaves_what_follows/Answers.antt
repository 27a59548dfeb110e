use Rattle.std.proofs.Common.{refl}
use Rattle.scan_model.specs.DirectiveLines.{effect}
use Rattle.unit_steps.specs.Moments.{with_rest}
use Rattle.unit_steps.proofs.Steps.{line_acts}
use Rattle.unit_steps.proofs.Effects.{effect_goes}
use Rattle.unit_steps.proofs.standing.a_line_leaves_what_follows.Goals as goal

pub returns : goal.returns
returns c = λ setup m answers f fs l ls after frames rest looking stands looks does.
    effect_goes setup (with_rest m f fs ls) answers (record f { rest = ls }) fs (λ files c. effect files setup c l) refl (line_acts setup m answers f fs l ls frames rest looking stands) after looks does
