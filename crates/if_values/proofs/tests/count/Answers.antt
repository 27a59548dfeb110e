use Rattle.std.proofs.Common.{◌≡◌, ◌<◌, ◌∙◌, length, arith, sym}
use Rattle.if_values.proofs.KnownLemmas.{counts-plain, counts-has, counts-bad, counts-end}
use Rattle.if_values.proofs.tests.count.Goals as goal

pub terms-preserved-then-not-is_has : goal.terms-preserved-then-not-is_has
terms-preserved-then-not-is_has c =
    let some : 0 < length c.terms.rest.now = grind (arith, c.terms-test.ensures) in
    counts-plain c.args.toks.now c.terms.rest.now c.split_at.result.1.now c.index-rest-0.result c.terms.found c.terms.invariant some c.index-rest-0.is (sym c.if-not-is_has.ensures) c.split_at.ensures.back

pub returns-in_err-name : goal.returns-in_err-name
returns-in_err-name c =
    let some : 0 < length c.terms.rest.now = grind (arith, c.terms-test.ensures) in
    c.from_residual.ensures
    ∙ counts-bad c.args.toks.now c.terms.rest.now c.split_at.result.1.now c.index-rest-0.result c.terms.found c.terms.invariant some c.index-rest-0.is (sym c.if-not-is_has.ensures) c.split_at.ensures.back c.in_err-name.ensures.value

pub terms-preserved : goal.terms-preserved
terms-preserved c =
    let some : 0 < length c.terms.rest.now = grind (arith, c.terms-test.ensures) in
    counts-has c.args.toks.now c.terms.rest.now c.split_at.result.1.now c.split_at-in-terms.result.1.now c.index-rest-0.result c.terms.found c.in_ok-name.name.form c.in_ok-name.name.after.now c.terms.invariant some c.index-rest-0.is
    (sym c.if-not-is_has.ensures) c.split_at.ensures.back c.in_ok-name.ensures.value c.in_ok-name.ensures.within c.split_at-in-terms.ensures.back

pub returns : goal.returns
returns c =
    let none : length c.terms.rest.now ≡ 0 = grind (arith, c.terms-test.ensures) in
    counts-end c.args.toks.now c.terms.rest.now c.terms.found c.terms.invariant none
