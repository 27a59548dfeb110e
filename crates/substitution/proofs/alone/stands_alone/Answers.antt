use Rattle.std.proofs.Common.{◌≡◌, sym, ◌∙◌, ap, Bool, false, ◌&&◌, ◌+◌, drop}
use Rattle.std.proofs.lemmas.List.{take_rest}
use Rattle.scan_model.specs.TokenTests.{is_named}
use Rattle.substitution.proofs.AloneLemmas.{is_alone, alone-more}
use Rattle.substitution.proofs.alone.stands_alone.Goals.{else-is_named-via-then-is_named+else-is_alone, else-is_named-via-else-is_named}
use Rattle.substitution.proofs.alone.stands_alone.Goals as goal

pub toks-preserved : goal.toks-preserved
toks-preserved c =
    let after = drop (c.toks.i + 1) c.args.body.now in
    let alone = is_alone c.args.variable c.toks.before.now c.toks.last.now after in
    let here : (is_named c.args.name.now c.index-body-i.result && alone) ≡ false = elim c.else-is_named.branch [
      | else-is_named-via-then-is_named+else-is_alone w ↦ ap (λ (b : Bool). b && alone) (sym c.is_named.ensures ∙ w.if-is_named.true)
          ∙ ap (is_alone c.args.variable c.toks.before.now c.toks.last.now) (sym (take_rest c.args.body.now (c.toks.i + 1))) ∙ sym w.is_alone.ensures ∙ w.if-is_alone.false
      | else-is_named-via-else-is_named w ↦ ap (λ (b : Bool). b && alone) (sym c.is_named.ensures ∙ w.if-is_named.false)
    ] in
    alone-more c.args.variable c.args.name.now c.toks.before.now c.toks.last.now c.args.body.now c.toks.i c.index-body-i.result c.toks-test.true c.index-body-i.is here c.toks.invariant
