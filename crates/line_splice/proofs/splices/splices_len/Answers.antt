use Rattle.std.proofs.Common.{◌+◌, ℕ, arith, length-drop, length-take, ◌∙◌}
use Rattle.line_splice.proofs.ShownLemmas.{splice_step}
use Rattle.line_splice.proofs.splices.splices_len.Goals as goal

pub loop-len-preserved : goal.loop-len-preserved
loop-len-preserved c = let n = c.loop-len.len in let t = c.args.text.now in
    record {
      within = omega (arith, length-drop (n + 1) t, c.newline_len-newline.ensures.within, length-take {A = ℕ});
      few = omega arith;
      same = λ last place line. c.loop-len.invariant.same last place line
          ∙ splice_step last place line t n c.loop-len.lines c.newline_len-newline.result c.if-text-len-eq92.true c.newline_len-newline.ensures.len c.if-newline-eq0.false;
    }
