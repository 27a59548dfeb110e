use Rattle.std.proofs.Common.{◌≡◌, ap, subst, not, ◌&&◌, ◌<◌, length, rules, arith, []}
use Rattle.std.proofs.lemmas.List.{nil_from_length}
use Rattle.std.specs.Vec.Iter.{into_iter_items}
use Rattle.scan_model.specs.Substitution as spec
use Rattle.substitution.specs.Calls.{Adds}
use Rattle.substitution.proofs.OptionalLemmas.{spacing-start, spacing-more, spacing-end, or_placemarker-some}
use Rattle.substitution.proofs.optional.add_content.Goals as goal

pub items-init : goal.items-init
items-init c = λ sets h. spacing-start sets _ _ _ _ c.into_iter-rest.ensures.rest h

pub items-preserved : goal.items-preserved
items-preserved c = λ sets h. spacing-more sets _ _ _ _ _ _ _ _ _ _ _ c.in-Some.ensures.items c.in_ok-push-2.ensures.items (ap (λ b. c.items.first && not b) c.stands.ensures) (c.spaced.ensures.known sets) (c.spaced.ensures.value sets) (c.items.invariant sets h)

pub returns : goal.returns
returns c = λ sets h.
    let some : 0 < length c.args.content.items = search rules in
    let none : into_iter_items c.items.rest ≡ [] = nil_from_length (into_iter_items c.items.rest) (omega (arith, c.in_default.ensures.cases.0, c.items.rest.rest.ok.0)) in
    subst (λ s. Adds sets c.args.items.now.items c.items.items.items (spec.first_item_spaced c.args.space s)) (or_placemarker-some sets c.args.content.items some)
    (spacing-end sets c.args.items.now.items c.items.items.items c.args.content.items (into_iter_items c.items.rest) c.args.space c.items.first none (c.items.invariant sets h))
