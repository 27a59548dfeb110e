use Rattle.std.proofs.Common.{arith, ◌∙◌, ◌≡◌, ◌≤◌, length}
use Rattle.std.proofs.lemmas.List.{take_all}
use Rattle.scan_model.specs.Literals.{number_of}
use Rattle.if_values.proofs.DigitLemmas.{number-overflows, fitting-is}
use Rattle.if_values.proofs.digits.number.Goals as goal

pub returns-in_err-number : goal.returns-in_err-number
returns-in_err-number c = c.from_residual.ensures ∙ number-overflows c.args.base c.digits.number c.in-Some.value c.digits.byte-index c.args.text.now c.requires c.digits-test.true c.digits.invariant.written c.in-Some.ensures c.in_err-number.ensures

pub returns : goal.returns
returns c =
    let whole : length c.args.text.now ≤ c.digits.byte-index = omega arith in
    let all : c.digits.number ≡ number_of c.args.base c.args.text.now = rw take_all at c.digits.invariant.written in
    rw (← all) (fitting-is c.digits.number c.digits.invariant.fits)
