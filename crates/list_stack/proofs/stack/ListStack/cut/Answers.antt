use Rattle.std.proofs.Common.{◌≡◌, sym, ◌∙◌, ap, subst, List, ℕ, ◌++◌, ◌+◌, length, arith}
use Rattle.std.specs.Prelude.{reverse, Vec}
use Rattle.std.specs.declared.alloc.Global.{Global}
use Rattle.list_stack.specs.declared.entry.Entry.{Entry}
use Rattle.list_stack.specs.Places.{floor, stack_of, AreStack, CutsAt}
use Rattle.list_stack.specs.Stacks.{Stack, Cuts}
use Rattle.list_stack.proofs.StackLemmas.{cut-stack, cut-stacks}
use Rattle.list_stack.proofs.stack.ListStack.cut.Goals as goal

pub invariant_of-self-2 : goal.invariant_of-self-2
invariant_of-self-2 c =
    let entries = c.self.inside.entries.items in
    let ends = reverse c.self.inside.ends.items in
    let places = c.in_ok-places.places.items in
    let floor_is = c.floor-floor.ensures ∙ ap (λ (ends : List ℕ). floor (reverse ends)) c.as_slice.ensures.value in
    let cuts = subst (λ (at : ℕ). CutsAt c.args.most at entries places) floor_is (subst (λ (es : List Entry). CutsAt c.args.most c.floor-floor.result es places) c.as_slice-2.ensures.value c.in_ok-places.ensures) in
    let new_ends : reverse c.in_ok-self-inside.field-0.items ≡ places ++ ends = c.in_ok-self-inside.ensures ∙ ap (λ (v : Vec ℕ Global). places ++ reverse v.items) c.replace-ends.ensures.value in
    subst (AreStack entries) (sym new_ends) (cut-stack entries ends places c.args.most c.self.invariant cuts)

pub returns : goal.returns
returns c =
    let entries = c.self.inside.entries.items in
    let ends = reverse c.self.inside.ends.items in
    let places = c.in_ok-places.places.items in
    let floor_is = c.floor-floor.ensures ∙ ap (λ (ends : List ℕ). floor (reverse ends)) c.as_slice.ensures.value in
    let cuts = subst (λ (at : ℕ). CutsAt c.args.most at entries places) floor_is (subst (λ (es : List Entry). CutsAt c.args.most c.floor-floor.result es places) c.as_slice-2.ensures.value c.in_ok-places.ensures) in
    let new_ends : reverse c.in_ok-self-inside.field-0.items ≡ places ++ ends = c.in_ok-self-inside.ensures ∙ ap (λ (v : Vec ℕ Global). places ++ reverse v.items) c.replace-ends.ensures.value in
    let count : c.len-count.result + 1 ≡ length places + 1 = omega (arith, c.len-count.ensures, c.in_ok-places.places.ok.0) in
    subst (λ (s : Stack). Cuts c.args.most s (stack_of entries (reverse c.in_ok-self-inside.field-0.items)) (c.len-count.result + 1)) c.self.view_is
    (subst (λ (xs : List ℕ). Cuts c.args.most (stack_of entries ends) (stack_of entries xs) (c.len-count.result + 1)) (sym new_ends)
    (cut-stacks entries ends places c.args.most c.self.invariant cuts (c.len-count.result + 1) count))
