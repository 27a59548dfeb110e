use Rattle.std.proofs.Common.{sym, ◌∙◌, ap, subst, List, ◌∷◌, ◌++◌, option_to_list, arith}
use Rattle.std.proofs.lemmas.List.{nil_from_length}
use Rattle.std.specs.Vec.Iter.{into_iter_items}
use Rattle.substitution.specs.declared.item.Item.{Item}
use Rattle.substitution.specs.declared.item.Item.TheVariants.{Paste}
use Rattle.substitution.specs.Meaning.{AreItems}
use Rattle.substitution.proofs.JoinLemmas.{AreItems-rest, AreItems-option, joining-start, joining-next, joining-paste}
use Rattle.substitution.proofs.joins.joined.Goals as goal

pub items-init : goal.items-init
items-init c = joining-start c.args.sets.now c.args.items.items _ c.in-Some.first _ c.requires (sym c.into_iter-rest.ensures.rest ∙ c.in-Some.ensures.items) c.new-done.ensures.items

pub joined_with-requires-clause-right : goal.joined_with-requires-clause-right
joined_with-requires-clause-right c =
    let after = option_to_list c.next-in-Paste.result ++ into_iter_items c.next-in-Paste.new.self in
    let all = c.in-Some-next.ensures.items ∙ ap (λ (x : Item). x ∷ into_iter_items c.next-in-items.new.self) c.in-Paste.is ∙ ap (λ (s : List Item). Paste c.in-Paste.field-0 ∷ s) c.next-in-Paste.ensures.items in
    (AreItems-option c.items.sets c.next-in-Paste.result (into_iter_items c.next-in-Paste.new.self) (AreItems-rest c.items.sets (Paste c.in-Paste.field-0) after (subst (AreItems c.items.sets) all c.items.invariant.rest_known))).0

pub items-preserved-in-Some-2 : goal.items-preserved-in-Some-2
items-preserved-in-Some-2 c =
    let all = c.in-Some-next.ensures.items ∙ ap (λ (x : Item). x ∷ into_iter_items c.next-in-items.new.self) c.in-Paste.is ∙ ap (λ (s : List Item). Paste c.in-Paste.field-0 ∷ s) c.next-in-Paste.ensures.items in
    joining-paste _ _ _ _ _ _ _ c.in-Paste.field-0 c.next-in-Paste.result _ _ all
    (λ e. let done = rw e at c.next-in-Paste.ensures.cases in nil_from_length _ (omega (arith, done, c.next-in-Paste.new.self.rest.ok.0)))
    c.in_ok-whole.ensures.extended (rw c.in-Some-2.is at c.in_ok-whole.ensures.value) c.items.invariant

pub items-preserved : goal.items-preserved
items-preserved c = joining-next _ _ _ _ _ _ _ _ _ c.in-Some-next.ensures.items c.in_default-item.not-Paste c.in_ok-push.ensures.items c.items.invariant
