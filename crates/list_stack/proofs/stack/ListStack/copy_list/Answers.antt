use Rattle.std.proofs.Common.{◌≡◌, ◌∙◌, ap, [], ◌∷◌, ◌++◌, length, arith}
use Rattle.std.specs.Prelude.{slice_get}
use Rattle.substitution.specs.declared.marked.Marked.{Marked}
use Rattle.list_stack.proofs.StackLemmas.{copied-next, copied-all}
use Rattle.list_stack.proofs.stack.ListStack.copy_list.Goals as goal

pub list-preserved : goal.list-preserved
list-preserved c =
    let xs = c.args.self.now.first in
    let place : c.len.result ≡ length c.list.list.items = omega (arith, c.len.ensures, c.list.list.ok.0) in
    copied-next xs c.list.list.items c.push.new.self.items c.in-Some.marked.now c.list.invariant (c.in-Some.ensures ∙ ap (slice_get xs) place)
    (c.in_ok-push.ensures.items ∙ ap (λ (m : Marked). c.list.list.items ++ m ∷ []) c.in_ok-copy_marked.ensures)

pub returns : goal.returns
returns c =
    let xs = c.args.self.now.first in
    let place : c.len.result ≡ length c.list.list.items = omega (arith, c.len.ensures, c.list.list.ok.0) in
    copied-all xs c.list.list.items c.list.invariant (c.in_default.ensures ∙ ap (slice_get xs) place)
