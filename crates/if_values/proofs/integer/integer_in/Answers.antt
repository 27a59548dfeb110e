use Rattle.std.proofs.Common.{sym, ◌∙◌, ap, List, ℕ}
use Rattle.scan_model.specs.Literals.{is_digit, integer_value, number_of}
use Rattle.if_values.specs.Digits.{fitting}
use Rattle.if_values.proofs.DigitLemmas.{integer_in-some}
use Rattle.if_values.proofs.integer.integer_in.Goals as goal

pub returns-in-Some : goal.returns-in-Some
returns-in-Some c =
    let base = c.args.base in
    let begun = sym (c.if-not-is_digit.ensures ∙ ap (is_digit base) c.byte_at.ensures) in
    let written = c.in-Some.ensures ∙ ap (λ (s : List ℕ). fitting (number_of base s)) c.split_at.ensures.front in
    c.with_suffix.ensures ∙ (ap (integer_value c.in-Some.bits) c.split_at.ensures.back ∙ integer_in-some base c.digits_len.result c.in-Some.bits c.args.text.now begun c.digits_len.ensures.value written)
