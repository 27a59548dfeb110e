use Rattle.std.proofs.Common.{arith}
use Rattle.substitution.proofs.ParensLemmas.{enclosed-start}
use Rattle.substitution.proofs.parens.enclosed.Goals as goal

pub toks-init : goal.toks-init
toks-init c = record { shallow = omega arith; inside = enclosed-start c.args.toks.now }
