use Rattle.unit_laws.proofs.SkipLemmas.{skip_tells}
use Rattle.unit_laws.proofs.skipping.skips_tell_what_lines_give.Goals as goal

pub returns : goal.returns
returns g c = skip_tells _
