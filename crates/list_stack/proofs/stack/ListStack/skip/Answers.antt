use Rattle.std.proofs.Common.{◌∙◌, ap, List, ℕ, ◌≤◌, length, drop, arith}
use Rattle.std.specs.Prelude.{reverse}
use Rattle.list_stack.specs.declared.entry.Entry.{Entry}
use Rattle.list_stack.specs.Places.{floor, stack_of}
use Rattle.list_stack.specs.Stacks.{Stack}
use Rattle.list_stack.proofs.EntryLemmas.{floor-le}
use Rattle.list_stack.proofs.StackLemmas.{same-stack, kept-lists, kept-dropped}
use Rattle.list_stack.proofs.stack.ListStack.skip.Goals as goal

pub returns : goal.returns
returns c =
    let entries = c.self.inside.entries.items in
    let ends = reverse c.self.inside.ends.items in
    let floor_is = c.floor.ensures ∙ ap (λ (ends : List ℕ). floor (reverse ends)) c.as_slice.ensures.value in
    let under = floor-le (length entries) ends c.self.invariant.above in
    let kept : c.max.result ≤ length entries = omega (arith, floor_is, under, c.max.ensures, c.saturating_sub-kept.ensures, c.len.ensures, c.self.inside.entries.ok.0) in
    let above : floor ends ≤ c.max.result = omega (arith, floor_is, c.max.ensures) in
    ap (λ (es : List Entry). stack_of es ends) c.truncate.ensures.items
    ∙ kept-lists entries ends c.max.result above kept c.self.invariant
    ∙ same-stack _ _ _ _ (kept-dropped entries ends c.max.result above kept c.self.invariant c.args.count
    (omega (arith, c.max.ensures, c.saturating_sub-kept.ensures, c.len.ensures, c.self.inside.entries.ok.0))
    (λ lt. omega (arith, lt, floor_is, c.max.ensures, c.saturating_sub-kept.ensures, c.len.ensures, c.self.inside.entries.ok.0))
    ∙ ap (λ (s : Stack). drop c.args.count s.first) c.self.view_is) (ap (λ (s : Stack). s.others) c.self.view_is)
