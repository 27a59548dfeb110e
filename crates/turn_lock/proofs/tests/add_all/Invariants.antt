use Rattle.turn_lock.specs.Passes.{IsPassOf}
use Rattle.turn_lock.proofs.tests.add_all.Given as goal

abbrev pub invariant-loop-count : goal.invariant-loop-count
invariant-loop-count g l = IsPassOf l.fn.lock l.pass
