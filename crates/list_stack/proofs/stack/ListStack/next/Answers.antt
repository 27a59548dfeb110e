use Rattle.std.proofs.Common.{sym, ◌∙◌, ap, List, ℕ, arith}
use Rattle.std.specs.Prelude.{reverse}
use Rattle.list_stack.specs.Places.{floor}
use Rattle.list_stack.proofs.StackLemmas.{next-stack, next-some}
use Rattle.list_stack.proofs.stack.ListStack.next.Goals as goal

pub invariant_of-self-2 : goal.invariant_of-self-2
invariant_of-self-2 c =
    let floor_is = c.floor.ensures ∙ ap (λ (ends : List ℕ). floor (reverse ends)) c.as_slice.ensures.value in
    next-stack c.self.inside.entries.items c.pop.new.self.items (reverse c.self.inside.ends.items) c.in-Some.entry c.in-Some.ensures.items (omega (arith, floor_is, c.if-len-floor.false, c.len.ensures, c.self.inside.entries.ok.0)) c.self.invariant

pub returns : goal.returns
returns c =
    let floor_is = c.floor.ensures ∙ ap (λ (ends : List ℕ). floor (reverse ends)) c.as_slice.ensures.value in
    sym c.self.view_is
    ∙ next-some c.self.inside.entries.items c.pop.new.self.items (reverse c.self.inside.ends.items) c.in-Some.entry c.in-Some.ensures.items (omega (arith, floor_is, c.if-len-floor.false, c.len.ensures, c.self.inside.entries.ok.0)) c.self.invariant
