use Rattle.std.proofs.Common.{arith, sym, add-one, ap, ◌∙◌}
use Rattle.if_values.specs.Digits.{goes_on}
use Rattle.if_values.proofs.DigitLemmas.{digits_len-more, goes_on-within}
use Rattle.if_values.proofs.digits.digits_len.Goals as goal

pub digits-preserved : goal.digits-preserved
digits-preserved c =
    let s = c.args.text.now in
    let here = sym (c.digits-test.ensures ∙ ap (goes_on c.args.base) c.after.ensures) in
    let more = digits_len-more c.args.base s c.digits.len here in
    let inside = goes_on-within c.args.base s c.digits.len here in
    rw add-one (record { within = omega (arith, inside); counted = omega (arith, more, c.digits.invariant.counted) })
