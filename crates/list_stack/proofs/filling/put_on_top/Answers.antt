use Rattle.std.proofs.lemmas.List.Elements.{All-pop}
use Rattle.std.specs.Prelude.{Some}
use Rattle.hide_sets.proofs.Growing.{IsSet-Extends}
use Rattle.substitution.specs.Meaning.{IsMarked}
use Rattle.list_stack.proofs.ListLemmas.{topping-start, topping-next}
use Rattle.list_stack.proofs.filling.put_on_top.Goals as goal

pub left-init : goal.left-init
left-init c = topping-start _ _ _ _ _ c.requires.linked c.requires.list c.into_vec-left.ensures

pub either-requires-clause-first : goal.either-requires-clause-first
either-requires-clause-first c =
    IsSet-Extends c.args.sets.now c.left.sets c.in-Some.marked.hides c.left.invariant.put.extended
    (All-pop (IsMarked c.args.sets.now) c.left.left.items _ (Some c.in-Some.marked) c.in-Some.ensures.items c.left.invariant.put.rest_known).1

pub left-preserved : goal.left-preserved
left-preserved c =
    topping-next _ c.left.sets _ _ _ _ c.left.left.items _ _ c.left.entries.items _ c.in-Some.marked c.in-Some.ensures.items c.in_ok-push_entry.ensures.added c.push_entry.ensures.linked c.requires.added c.in_ok-hides.ensures.ok c.left.invariant
