use Rattle.std.proofs.Common.{◌∙◌, arith}
use Rattle.expansion.proofs.StateLemmas.{turns-along}
use Rattle.expansion.proofs.machine.Machine.next_arg.Goals as goal

pub returns-then-is_replaced : goal.returns-then-is_replaced
returns-then-is_replaced c = turns-along c.begin.result _ _ _ _ _ c.further.invariant.same (omega (arith, c.further.invariant.less)) c.begin.ensures

pub further-preserved : goal.further-preserved
further-preserved c = record {
  valid = c.in_ok-call.ensures.valid;
  known = c.in_ok-call.ensures.known;
  same = λ e. c.in_ok-call.ensures.same e ∙ c.further.invariant.same e;
  less = omega (arith, c.in_ok-call.ensures.less, c.further.invariant.less);
}

pub returns : goal.returns
returns c = turns-along c.finish.result _ _ _ _ _ c.further.invariant.same (omega (arith, c.further.invariant.less)) c.finish.ensures
