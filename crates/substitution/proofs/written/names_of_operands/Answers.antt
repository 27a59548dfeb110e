use Rattle.std.proofs.Common.{◌≡◌, ◌∙◌, ap, ◌&&◌, ◌||◌, ◌+◌, Bool, drop}
use Rattle.std.proofs.lemmas.List.{take_rest}
use Rattle.scan_model.specs.TokenTests.{is_named}
use Rattle.substitution.specs.Places.{has_name}
use Rattle.substitution.specs.Written.{is_operand}
use Rattle.substitution.proofs.NameLemmas.{operand-noted}
use Rattle.substitution.proofs.written.names_of_operands.Goals as goal

pub toks-preserved : goal.toks-preserved
toks-preserved c = λ q.
    let body = c.as_slice-body.result.now in
    let tok = c.index-body-i.result in
    let last = c.toks.last.now in
    let had = has_name c.toks.names.keys q in
    let operand : c.is_operand-operand.result ≡ is_operand last (drop (c.toks.i + 1) body) = c.is_operand-operand.ensures ∙ ap (is_operand last) (take_rest body (c.toks.i + 1)) in
    operand-noted q had (has_name c.add_name.new.names.keys q) last body c.toks.i tok c.toks-test.true c.index-body-i.is
    (c.in_ok-add_name.ensures q ∙ ap (λ (b : Bool). (is_named q tok && b) || had) operand) (c.toks.invariant q)
