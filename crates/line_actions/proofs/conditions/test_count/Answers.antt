use Rattle.std.proofs.Common.{sym, ◌∙◌, drop, arith}
use Rattle.scan_model.specs.declared.condition.HasNext.TheVariants.{End, Bad, At}
use Rattle.if_values.proofs.WalkLemmas.{walked, count_end, count_bad, count_at}
use Rattle.line_actions.proofs.conditions.test_count.Goals as goal

pub returns-in-End : goal.returns-in-End
returns-in-End c = let toks = c.args.toks.now in
    let w = walked toks c.tests.from End c.tests.invariant.place c.in-End.ensures in
    sym (count_end toks (drop c.tests.from toks) c.tests.from c.tests.count w) ∙ c.tests.invariant.left

pub returns-in-Bad : goal.returns-in-Bad
returns-in-Bad c = let toks = c.args.toks.now in
    let w = walked toks c.tests.from (Bad c.in-Bad.field-0) c.tests.invariant.place c.in-Bad.ensures in
    sym (count_bad toks (drop c.tests.from toks) c.tests.from c.in-Bad.field-0 c.tests.count w) ∙ c.tests.invariant.left

pub overflow_add-from : goal.overflow_add-from
overflow_add-from c = let w = walked c.args.toks.now c.tests.from (At c.in-At.at) c.tests.invariant.place c.in-At.ensures in
    omega (arith, w.1.within)

pub tests-smaller : goal.tests-smaller
tests-smaller c = let w = walked c.args.toks.now c.tests.from (At c.in-At.at) c.tests.invariant.place c.in-At.ensures in
    omega (arith, w.1.within, w.1.later)

pub tests-preserved : goal.tests-preserved
tests-preserved c = let toks = c.args.toks.now in
    let w = walked toks c.tests.from (At c.in-At.at) c.tests.invariant.place c.in-At.ensures in
    record {
      place = w.1.within;
      few = omega (arith, w.1.later, c.tests.invariant.few);
      left = sym (count_at toks (drop c.tests.from toks) c.tests.from c.tests.count c.in-At.at w) ∙ c.tests.invariant.left;
    }
