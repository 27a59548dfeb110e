use Rattle.std.proofs.Common.{◌∙◌, ap, ◌++◌, ◌∷◌, []}
use Rattle.substitution.specs.declared.marked.Marked.{Marked}
use Rattle.substitution.specs.declared.item.Item.TheVariants.{Operand}
use Rattle.substitution.proofs.AddLemmas.{operands-more}
use Rattle.substitution.proofs.copies.add_all.Goals as goal

pub marked-preserved : goal.marked-preserved
marked-preserved c = λ sets k.
    let grown = c.in_ok-push.ensures.items ∙ ap (λ (m : Marked). c.marked.items.items ++ Operand m ∷ []) c.in_ok-copy_marked.ensures in
    operands-more sets c.args.items.now.items c.marked.items.items _ c.args.marked.now c.marked.i c.index-marked-i.result c.marked-test.true c.index-marked-i.is k grown (c.marked.invariant sets k)
