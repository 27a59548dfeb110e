use Rattle.std.proofs.Common.{◌∙◌, ap, List, ℕ, ◌-◌, arith}
use Rattle.std.specs.Prelude.{reverse, Some, slice_get}
use Rattle.list_stack.specs.declared.entry.Entry.{Entry}
use Rattle.list_stack.specs.Places.{floor}
use Rattle.list_stack.specs.Stacks.{Stack}
use Rattle.list_stack.proofs.StackLemmas.{at-some, at-none}
use Rattle.list_stack.proofs.stack.ListStack.at.Goals as goal

pub returns-then-place-count : goal.returns-then-place-count
returns-then-place-count c =
    let floor_is = c.floor.ensures ∙ ap (λ (ends : List ℕ). floor (reverse ends)) c.as_slice.ensures.value in
    let entries = c.self.inside.entries.items in
    let count = c.len-count.result in
    ap (λ (e : Entry). Some e.marked) c.index.ensures
    ∙ at-some (floor (reverse c.self.inside.ends.items)) c.args.place (count - 1 - c.args.place) entries c.index.result.now
    (omega (arith, floor_is, c.if-place-count.true)) (omega (arith, c.if-place-count.true, c.len-count.ensures, c.self.inside.entries.ok.0)) ∙ ap (λ (s : Stack). slice_get s.first c.args.place) c.self.view_is

pub returns-else-place-count : goal.returns-else-place-count
returns-else-place-count c =
    let floor_is = c.floor.ensures ∙ ap (λ (ends : List ℕ). floor (reverse ends)) c.as_slice.ensures.value in
    let entries = c.self.inside.entries.items in
    at-none (floor (reverse c.self.inside.ends.items)) c.args.place entries (omega (arith, floor_is, c.if-place-count.false, c.len-count.ensures, c.self.inside.entries.ok.0)) ∙ ap (λ (s : Stack). slice_get s.first c.args.place) c.self.view_is
