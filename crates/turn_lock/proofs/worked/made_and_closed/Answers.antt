use Rattle.std.proofs.Common.{◌∙◌, subst}
use Rattle.turn_lock.specs.Passes.{GrownBy}
use Rattle.turn_lock.proofs.Closing.{nothing_new}
use Rattle.turn_lock.proofs.worked.made_and_closed.Goals as goal

pub returns-in-Ok-clause-ok : goal.returns-in-Ok-clause-ok
returns-in-Ok-clause-ok g c = let made = c.in-Ok.ensures in let back = c.close.ensures in (
  nothing_new {g = g.T.Logged} c.in-Ok.passes (g.T.Logged.log c.args.first) (g.T.Logged.log c.close.result) back.fits (λ i p at. (made.passes.1 i p at).2)
      (subst (λ log. GrownBy {g = g.T.Logged} g.T.Logged.maker c.in-Ok.passes log (g.T.Logged.log c.close.result)) made.lock.1 back.grown),
  back.fixed ∙ made.lock.2,
)
