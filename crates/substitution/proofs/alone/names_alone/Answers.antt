use Rattle.std.proofs.Common.{◌≡◌, ◌∙◌, ap, ◌&&◌, ◌||◌, ◌+◌, Bool, drop}
use Rattle.std.proofs.lemmas.List.{take_rest}
use Rattle.scan_model.specs.TokenTests.{is_named}
use Rattle.scan_model.specs.Substitution.{is_variable_part}
use Rattle.substitution.specs.Places.{has_name}
use Rattle.substitution.proofs.AloneLemmas.{is_alone}
use Rattle.substitution.proofs.NameLemmas.{alone-noted}
use Rattle.substitution.proofs.alone.names_alone.Goals as goal

pub toks-preserved : goal.toks-preserved
toks-preserved c = λ q.
    let variadic = c.args.definition.now.variadic in
    let body = c.as_slice-body.result.now in
    let tok = c.index-body-i.result in
    let before = c.toks.before.now in
    let last = c.toks.last.now in
    let after = drop (c.toks.i + 1) body in
    let had = has_name c.toks.names.keys q in
    let variable : c.is_variable_part-variable.result ≡ is_variable_part variadic tok.text = c.is_variable_part-variable.ensures ∙ ap (is_variable_part variadic) c.as_slice.ensures in
    let alone : c.is_alone-alone.result ≡ is_alone (is_variable_part variadic tok.text) before last after =
    c.is_alone-alone.ensures ∙ ap (is_alone c.is_variable_part-variable.result before last) (take_rest body (c.toks.i + 1)) ∙ ap (λ (b : Bool). is_alone b before last after) variable in
    alone-noted variadic q had (has_name c.add_name.new.names.keys q) before last body c.toks.i tok c.toks-test.true c.index-body-i.is
    (c.in_ok-add_name.ensures q ∙ ap (λ (b : Bool). (is_named q tok && b) || had) alone) (c.toks.invariant q)
