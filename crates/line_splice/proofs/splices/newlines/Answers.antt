use Rattle.std.proofs.Common.{ap, arith}
use Rattle.std.proofs.lemmas.List.{take_rest}
use Rattle.line_splice.specs.Plain.{newlines}
use Rattle.line_splice.proofs.NewlineLemmas.{newlines_split, newlines_more}
use Rattle.line_splice.proofs.splices.newlines.Goals as goal

pub loop-passed-preserved : goal.loop-passed-preserved
loop-passed-preserved c = let t = c.args.written.now in let p = c.loop-passed.passed in let n = c.newlines_at-count in
    record {
      count = omega (arith, c.loop-passed.invariant.count, n.ensures.count, newlines_more p 32 t);
      few = omega (arith, c.loop-passed.invariant.few, n.ensures.few);
      within = omega (arith, c.loop-passed-test.true);
    }

pub returns-clause-count : goal.returns-clause-count
returns-clause-count c = let t = c.args.written.now in let p = c.loop-passed.passed in
    omega (arith, c.loop-passed.invariant.count, c.few_newlines.ensures.count, ap newlines (take_rest t p), newlines_split p t)
