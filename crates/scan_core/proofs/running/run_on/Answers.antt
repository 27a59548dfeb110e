use Rattle.std.proofs.Common.{refl, subst}
use Rattle.std.specs.declared.result.Result.TheVariants.{Ok}
use Rattle.unit_scan.specs.Turns.{Turns}
use Rattle.scan_core.proofs.RunningLemmas.{over_end}
use Rattle.scan_core.proofs.running.run_on.Goals as goal

pub returns-in-Ask : goal.returns-in-Ask
returns-in-Ask g c =
    let t = subst (λ z. Turns c.args.unit c.next.new.self (Ok z)) c.in-Ask.is c.in_ok-next.ensures.turn in
    (refl, (c.next.ensures.same, (c.next.ensures.fits, (t.0, t.1))))

pub returns-in-Done : goal.returns-in-Done
returns-in-Done g c =
    let t = subst (λ z. Turns c.args.unit c.next.new.self (Ok z)) c.in-Done.is c.in_ok-next.ensures.turn in
    (refl, (c.next.ensures.same, (c.next.ensures.fits, over_end c.next.new.self.phase t.0 (λ e. c.requires.memory (t.1 e)))))
