use Rattle.std.proofs.Common.{sym, ◌∙◌, ap, refl, List, ℕ}
use Rattle.scan_model.specs.declared.token.Tok.{Tok}
use Rattle.expansion.specs.States.{scope_of}
use Rattle.expansion.proofs.StraightLemmas.{settles-object, one-of}
use Rattle.expansion.proofs.straight.object.Goals as goal

pub returns : goal.returns
returns c =
    let e = scope_of c.args.scope.now in
    let name = c.args.name.now in
    let t = c.index-body-0.result in
    let put : List ℕ → Tok = λ (text : List ℕ). record name { kind = t.kind; text = text } in
    settles-object e name t c.args.rest.now c.args.body.now _ (one-of c.args.body.now t c.if-body-ne1.false c.index-body-0.is)
    (sym c.stays.ensures ∙ c.if-not-stays.false) (c.in_ok-in_place.ensures ∙ ap put c.as_slice.ensures) refl
