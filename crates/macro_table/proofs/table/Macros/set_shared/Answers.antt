use Rattle.std.proofs.Common.{refl, sym, ◌∙◌, ap, subst, rules, Some}
use Rattle.macro_table.specs.Table.{fresh, defined}
use Rattle.macro_table.specs.Definition.{AreSound}
use Rattle.macro_table.proofs.Changes.{found, absent, from_equal, macros_of-define, AreSound-define}
use Rattle.macro_table.proofs.table.Macros.set_shared.Goals as goal

pub returns-in-Some-clause-ok : goal.returns-in-Some-clause-ok
returns-in-Some-clause-ok c =
    let h = (c.get_mut.follows.holds c.define.new.self).3 (search rules) in
    rw (← c.self.view_is) (macros_of-define _ _ _ _ _ (found _ _ _ c.in-Some.ensures.value) c.args.shared.value (record {
      is_name = refl;
      here = h.1 ∙ ap (λ s. Some s) c.define.ensures;
      others = h.3;
    }))

pub invariant_of-self : goal.invariant_of-self
invariant_of-self c =
    let h = (c.get_mut.follows.holds c.define.new.self).3 (search rules) in
    let made = macros_of-define c.args.name.now c.args.name.now c.in-Some.slot.now c.self.inside.slots.entries (c.get_mut.follows.lender c.define.new.self).entries (found _ _ _ c.in-Some.ensures.value) c.args.shared.value (record {
      is_name = refl;
      here = h.1 ∙ ap (λ s. Some s) c.define.ensures;
      others = h.3;
    }) in
    subst AreSound (sym made) (AreSound-define _ _ _ c.requires c.self.invariant)

pub returns-clause-ok : goal.returns-clause-ok
returns-clause-ok c =
    let h = c.in_ok-insert.ensures.updates in
    let slot_is = ap (defined c.args.shared.value) c.new-slot.ensures in
    rw (← c.self.view_is) (macros_of-define _ _ _ _ _ (absent _ _ c.in_default.ensures.value) c.args.shared.value (from_equal _ _ _ _ _ _ (ap (λ m. m.entries) c.get_mut.follows.holds-at-none) (record {
      is_name = c.in_ok-key.ensures.items;
      here = h.1 ∙ ap (λ s. Some s) (c.define-2.ensures ∙ slot_is);
      others = h.3;
    })))

pub invariant_of-self-2 : goal.invariant_of-self-2
invariant_of-self-2 c =
    let h = c.in_ok-insert.ensures.updates in
    let slot_is = ap (defined c.args.shared.value) c.new-slot.ensures in
    let made = macros_of-define c.args.name.now c.in_ok-key.key.items fresh c.self.inside.slots.entries c.insert.new.self.entries (absent _ _ c.in_default.ensures.value) c.args.shared.value (from_equal _ _ _ _ _ _ (ap (λ m. m.entries) c.get_mut.follows.holds-at-none) (record {
      is_name = c.in_ok-key.ensures.items;
      here = h.1 ∙ ap (λ s. Some s) (c.define-2.ensures ∙ slot_is);
      others = h.3;
    })) in
    subst AreSound (sym made) (AreSound-define _ _ _ c.requires c.self.invariant)
