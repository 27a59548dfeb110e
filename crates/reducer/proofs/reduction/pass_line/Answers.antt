use Rattle.std.proofs.Common.{◌∙◌, true, false, arith}
use Rattle.line_splice.specs.Cursor.{rest}
use Rattle.reducer.proofs.PassLemmas.{passed_smaller, then_stays, passed_stays, passed_end, line_less}
use Rattle.reducer.proofs.RoomLemmas.{further_end, further_passed, further_one}
use Rattle.reducer.proofs.RunLemmas.{run_stays, run_less}
use Rattle.reducer.proofs.reduction.pass_line.Goals as goal

pub tokens-init : goal.tokens-init
tokens-init c =
    let text = c.args.at.now.text.now in
    let left = rest c.pass_run.new.at in
    let ahead = c.pass_run.ensures.left in
    record {
      same = c.pass_run.ensures.text;
      kept = run_stays text text (rest c.args.at.now) left (λ i. text) c.pass_run.ensures.run;
      further = further_end text c.args.at.now left (λ i. text) ahead;
      less = run_less (rest c.args.at.now) left ahead.0 ahead.1;
    }

pub tokens-smaller : goal.tokens-smaller
tokens-smaller c =
    let less = passed_smaller c.tokens.at.text.now (rest c.tokens.at) (rest c.pass_token.new.at) c.tokens-test.ensures.passed in
    let ahead = c.pass_run-in-tokens.ensures.left in
    omega (arith, less, run_less (rest c.pass_token.new.at) (rest c.pass_run-in-tokens.new.at) ahead.0 ahead.1)

pub tokens-preserved : goal.tokens-preserved
tokens-preserved c =
    let text = c.args.at.now.text.now in
    let mid = rest c.pass_token.new.at in
    let left = rest c.pass_run-in-tokens.new.at in
    let ahead = c.pass_run-in-tokens.ensures.left in
    let less = passed_smaller c.tokens.at.text.now (rest c.tokens.at) mid c.tokens-test.ensures.passed in
    let same = c.pass_token.ensures.text ∙ c.tokens.invariant.same in
    record {
      same = c.pass_run-in-tokens.ensures.text ∙ same;
      kept = then_stays text (rest c.args.at.now) (rest c.tokens.at) left c.tokens.invariant.kept
          (then_stays text (rest c.tokens.at) mid left
          (passed_stays text c.tokens.at.text.now (rest c.tokens.at) mid c.tokens.invariant.same c.tokens-test.ensures.passed)
          (run_stays text c.pass_token.new.at.text.now mid left same c.pass_run-in-tokens.ensures.run));
      further = omega (arith, c.tokens.invariant.further, further_passed text c.tokens.at true mid c.tokens.invariant.same c.tokens-test.ensures.passed, further_end text c.pass_token.new.at left same ahead);
      less = omega (arith, less, c.tokens.invariant.less, run_less mid left ahead.0 ahead.1);
    }

pub returns-clause-kept : goal.returns-clause-kept
returns-clause-kept c before is =
    let text = c.args.at.now.text.now in
    let k = c.tokens.invariant.kept before is in
    k.2 ∙ passed_end text c.tokens.at.text.now (rest c.tokens.at) (rest c.pass_token.new.at) (rest c.pass_newline.new.at) c.tokens.invariant.same c.tokens-test.ensures.passed c.pass_newline.ensures.rest k.0 k.1

pub returns-clause-further : goal.returns-clause-further
returns-clause-further c =
    let text = c.args.at.now.text.now in
    let passed = further_passed text c.tokens.at false (rest c.pass_token.new.at) c.tokens.invariant.same c.tokens-test.ensures.passed in
    let newline = further_one text c.pass_token.new.at (rest c.pass_newline.new.at) (c.pass_token.ensures.text ∙ c.tokens.invariant.same) c.pass_newline.ensures.rest in
    omega (arith, c.tokens.invariant.further, passed, newline)

pub returns-clause-less : goal.returns-clause-less
returns-clause-less c =
    let less = line_less (rest c.tokens.at) (rest c.pass_token.new.at) (rest c.pass_newline.new.at) c.tokens-test.ensures.passed.1 c.pass_newline.ensures.rest in
    omega (arith, less, c.tokens.invariant.less)
