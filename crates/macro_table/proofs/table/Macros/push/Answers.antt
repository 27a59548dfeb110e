use Rattle.std.proofs.Common.{◌≡◌, refl, sym, ◌∙◌, ap, subst, rules, Some}
use Rattle.scan_model.specs.Macros as map
use Rattle.macro_table.specs.Table.{macros_of, saving}
use Rattle.macro_table.specs.Entries.{entries}
use Rattle.macro_table.specs.Definition.{AreSound}
use Rattle.macro_table.proofs.Changes.{absent, from_equal, macros_of-push, AreSound-push, Pushes, pushes, AreSound-pushes}
use Rattle.macro_table.proofs.table.Macros.push.Goals as goal

-- ## Where the name has an entry

wrote : (c : goal.After-self-in-Some-1) → Pushes c.push.result c.args.name.now c.self.inside.slots.entries (c.get_mut.follows.lender c.push.new.self).entries
wrote c =
    let h = c.get_mut.follows.holds c.push.new.self in
    let updates = h.3 (search (rules, c.in-Some.ensures.value)) in
    pushes _ _ _ _ _ _ c.in-Some.ensures.value (record { is_name = refl; here = updates.1; others = updates.3 }) h.0 c.push.ensures.ok c.push.ensures.err

pub invariant_of-self : goal.invariant_of-self
invariant_of-self c = AreSound-pushes _ _ _ _ (wrote c) c.self.invariant

pub returns-in-Some-clause-ok : goal.returns-in-Some-clause-ok
returns-in-Some-clause-ok c = rw (← c.self.view_is) (wrote c).ok

pub returns-in-Some-clause-err : goal.returns-in-Some-clause-err
returns-in-Some-clause-err c = rw (← c.self.view_is) (wrote c).err

-- ## Where it has none

made : (c : goal.Joined-branch-4) → macros_of (entries c.insert.new.self.entries) ≡ map.push (macros_of (entries c.self.inside.slots.entries)) c.args.name.now
made c =
    let h = c.in_ok-insert.ensures.updates in
    macros_of-push _ _ _ _ _ (absent _ _ c.in_default.ensures.value) (from_equal _ _ _ _ _ _ (ap (λ m. m.entries) c.get_mut.follows.holds-at-none) (record {
      is_name = c.in_ok-key.ensures.items;
      here = h.1 ∙ ap (λ s. Some s) (c.in_ok-push.ensures.ok ∙ ap saving c.new-slot.ensures);
      others = h.3;
    }))

pub returns-clause-ok : goal.returns-clause-ok
returns-clause-ok c = rw (← c.self.view_is) (made c)

pub invariant_of-self-2 : goal.invariant_of-self-2
invariant_of-self-2 c = subst AreSound (sym (made c)) (AreSound-push _ _ c.self.invariant)
