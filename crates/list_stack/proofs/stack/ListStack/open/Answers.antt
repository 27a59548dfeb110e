use Rattle.std.proofs.Common.{◌≡◌, sym, ◌∙◌, ap, subst, List, ℕ, [], ◌∷◌, ◌-◌, length, take, arith}
use Rattle.std.specs.Prelude.{reverse}
use Rattle.std.proofs.lemmas.List.{reverse-append}
use Rattle.list_stack.specs.declared.entry.Entry.{Entry}
use Rattle.list_stack.specs.Places.{floor, stack_of, ClosesAt}
use Rattle.list_stack.specs.Stacks.{Stack, OpensAt}
use Rattle.list_stack.proofs.StackLemmas.{opened-lists}
use Rattle.list_stack.proofs.stack.ListStack.open.Goals as goal

pub returns : goal.returns
returns c =
    let entries = c.self.inside.entries.items in
    let ends = reverse c.self.inside.ends.items in
    let close = c.in-Some.close in
    let floor_is = c.floor-floor.ensures ∙ ap (λ (ends : List ℕ). floor (reverse ends)) c.as_slice.ensures.value in
    let closes = subst (λ (at : ℕ). ClosesAt at entries close) floor_is (subst (λ (es : List Entry). ClosesAt c.floor-floor.result es close) c.as_slice-2.ensures.value c.in-Some.ensures) in
    let opens = opened-lists entries ends close c.self.invariant closes c.index.result.now c.index.result.now.marked.hides (ap (λ (e : Entry). e.marked.hides) c.index.ensures) in
    let new_entries : c.truncate.new.self.items ≡ take (length entries - 1) entries = c.truncate.ensures.items ∙ ap (λ (n : ℕ). take n entries) (omega (arith, c.len.ensures, c.self.inside.entries.ok.0)) in
    let new_ends : reverse c.push.new.self.items ≡ close ∷ ends = ap reverse c.in_ok-push.ensures.items ∙ reverse-append c.self.inside.ends.items (close ∷ []) in
    subst (λ (s : Stack). OpensAt s (stack_of c.truncate.new.self.items (reverse c.push.new.self.items)) c.index.result.now.marked.hides) c.self.view_is
    (subst (λ (es : List Entry). OpensAt (stack_of entries ends) (stack_of es (reverse c.push.new.self.items)) c.index.result.now.marked.hides) (sym new_entries)
    (subst (λ (xs : List ℕ). OpensAt (stack_of entries ends) (stack_of (take (length entries - 1) entries) xs) c.index.result.now.marked.hides) (sym new_ends) opens))
