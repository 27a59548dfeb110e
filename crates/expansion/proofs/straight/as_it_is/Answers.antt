use Rattle.std.proofs.Common.{refl}
use Rattle.expansion.proofs.StraightLemmas.{settles-out}
use Rattle.expansion.proofs.straight.as_it_is.Goals as goal

pub returns : goal.returns
returns c = λ e. settles-out e c.args.tok.now c.args.rest.now _ c.in_ok-copy.ensures refl
