use Rattle.std.proofs.Common.{◌∙◌, ◌-◌, ◌==◌, ◌||◌, not, refl, ap, sym, arith}
use Rattle.token_spelling.proofs.RawLemmas.{within_all, good_here, end_here, front_more}
use Rattle.token_spelling.proofs.raw_strings.divide.Goals as goal

pub loop-i-init : goal.loop-i-init
loop-i-init c = record {
  few = omega arith;
  front = refl;
  same = within_all c.args.text.now;
}

pub loop-i-preserved : goal.loop-i-preserved
loop-i-preserved c = let t = c.args.text.now in let i = c.loop-i.i in let before = c.loop-i.invariant in
    let next = good_here t i (omega arith) before.few c.if-byte-eq40.false (ap (λ b. i == 16 || not b) (sym c.may_delimit.ensures) ∙ c.if-i-may_delimit.false) in
    record {
      few = next.0;
      front = front_more t i (omega arith) c.if-byte-eq40.false ∙ before.front;
      same = sym next.1 ∙ before.same;
    }

pub returns : goal.returns
returns c = sym c.loop-i.invariant.same ∙ end_here (16 - c.loop-i.i) c.args.text.now c.loop-i.i (omega arith)
