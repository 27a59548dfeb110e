use Rattle.std.proofs.Common.{◌≡◌, sym, ◌∙◌, ap, Bool, false, ◌&&◌, ◌+◌, drop}
use Rattle.std.proofs.lemmas.List.{take_rest}
use Rattle.scan_model.specs.TokenTests.{is_named}
use Rattle.substitution.specs.Written.{is_operand}
use Rattle.substitution.proofs.OperandLemmas.{operand-more}
use Rattle.substitution.proofs.written.stands_as_operand.Goals.{else-is_named-via-then-is_named+else-is_operand, else-is_named-via-else-is_named}
use Rattle.substitution.proofs.written.stands_as_operand.Goals as goal

pub toks-preserved : goal.toks-preserved
toks-preserved c =
    let operand = is_operand c.toks.last.now (drop (c.toks.i + 1) c.args.body.now) in
    let here : (is_named c.args.name.now c.index-body-i.result && operand) ≡ false = elim c.else-is_named.branch [
      | else-is_named-via-then-is_named+else-is_operand w ↦ ap (λ (b : Bool). b && operand) (sym c.is_named.ensures ∙ w.if-is_named.true)
          ∙ ap (is_operand c.toks.last.now) (sym (take_rest c.args.body.now (c.toks.i + 1))) ∙ sym w.is_operand.ensures ∙ w.if-is_operand.false
      | else-is_named-via-else-is_named w ↦ ap (λ (b : Bool). b && operand) (sym c.is_named.ensures ∙ w.if-is_named.false)
    ] in
    operand-more c.args.name.now c.toks.last.now c.args.body.now c.toks.i c.index-body-i.result c.toks-test.true c.index-body-i.is here c.toks.invariant
