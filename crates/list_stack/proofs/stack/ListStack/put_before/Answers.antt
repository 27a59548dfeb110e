use Rattle.std.proofs.Common.{sym, ◌∙◌, ap, subst, List, length}
use Rattle.std.specs.Prelude.{reverse, Result, Ok, Err, OnOk}
use Rattle.hide_sets.specs.Sets.{hides_of}
use Rattle.scan_model.specs.declared.memory.NoMemory.{NoMemory}
use Rattle.substitution.specs.declared.marked.Marked.{Marked}
use Rattle.substitution.specs.Meaning.{AreMarked}
use Rattle.list_stack.specs.Places.{floor, part, AddsHidden}
use Rattle.list_stack.specs.Stacks.{Stack, PutsBefore}
use Rattle.list_stack.proofs.EntryLemmas.{floor-le, lists_below-under}
use Rattle.list_stack.proofs.ListLemmas.{puts-before}
use Rattle.list_stack.proofs.stack.ListStack.put_before.Goals as goal

on_ok : (r : Result (Unit {0}) NoMemory) (P Q : Type 0) → (P → Q) → OnOk r P → OnOk r Q
on_ok (Ok x) P Q f h = f h
on_ok (Err e) P Q f h = h

pub returns-clause-value : goal.returns-clause-value
returns-clause-value c =
    let old = c.self.inside.entries.items in
    let new = c.put_on_top.new.entries.items in
    let from = floor (reverse c.self.inside.ends.items) in
    let hides = hides_of c.args.sets.now c.args.added in
    let first = ap (λ (s : Stack). s.first) c.self.view_is in
    on_ok c.put_on_top.result _ _
    (λ (a : AddsHidden c.args.sets.now c.put_on_top.new.sets hides c.args.list old new).
    subst (λ (xs : List Marked). PutsBefore c.args.sets.now c.put_on_top.new.sets hides c.args.list xs (part from (length new) new)) first
    (puts-before c.args.sets.now c.put_on_top.new.sets hides c.args.list old new from (floor-le (length old) (reverse c.self.inside.ends.items) c.self.invariant.above) c.put_on_top.ensures.extended (subst (AreMarked c.args.sets.now) (sym first) c.requires.rest) a))
    c.put_on_top.ensures.value

pub returns-clause-others : goal.returns-clause-others
returns-clause-others c =
    let old = c.self.inside.entries.items in
    let new = c.put_on_top.new.entries.items in
    let hides = hides_of c.args.sets.now c.args.added in
    on_ok c.put_on_top.result _ _
    (λ (a : AddsHidden c.args.sets.now c.put_on_top.new.sets hides c.args.list old new).
    lists_below-under old new a.front (reverse c.self.inside.ends.items) c.self.invariant.above a.adds ∙ ap (λ (s : Stack). s.others) c.self.view_is)
    c.put_on_top.ensures.value
