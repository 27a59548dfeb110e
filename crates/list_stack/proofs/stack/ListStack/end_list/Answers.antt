use Rattle.std.proofs.Common.{◌≡◌, sym, ◌∙◌, ap, subst, List, ℕ, ◌∷◌, []}
use Rattle.std.specs.Prelude.{reverse}
use Rattle.std.proofs.lemmas.List.{reverse-append}
use Rattle.list_stack.specs.declared.entry.Entry.{Entry}
use Rattle.list_stack.specs.Places.{AreStack, stack_of}
use Rattle.list_stack.specs.Stacks.{Stack}
use Rattle.list_stack.proofs.StackLemmas.{ended-lists}
use Rattle.list_stack.proofs.stack.ListStack.end_list.Goals as goal

pub returns-in-Some : goal.returns-in-Some
returns-in-Some c =
    let entries = c.self.inside.entries.items in
    let ends = reverse c.pop.new.self.items in
    let old_ends : reverse c.self.inside.ends.items ≡ c.in-Some.end ∷ ends = ap reverse c.in-Some.ensures.items ∙ reverse-append c.pop.new.self.items (c.in-Some.end ∷ []) in
    ap (λ (s : Stack). s.others) (sym c.self.view_is) ∙ ap (λ (xs : List ℕ). (stack_of entries xs).others) old_ends
    ∙ ended-lists entries c.in-Some.end ends (subst (AreStack entries) old_ends c.self.invariant)
    ∙ ap (λ (es : List Entry). (stack_of es ends).first ∷ (stack_of es ends).others) (sym c.truncate.ensures.items)
