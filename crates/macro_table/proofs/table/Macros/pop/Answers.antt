use Rattle.std.proofs.Common.{◌≡◌, refl, sym, ◌∙◌, ap, subst, rules, Some}
use Rattle.scan_model.specs.Macros as map
use Rattle.macro_table.specs.Table.{macros_of}
use Rattle.macro_table.specs.Entries.{entries}
use Rattle.macro_table.specs.Definition.{AreSound}
use Rattle.macro_table.proofs.Changes.{found, macros_of-pop, macros_of-pop_absent, AreSound-pop}
use Rattle.macro_table.proofs.table.Macros.pop.Goals as goal
use Rattle.macro_table.proofs.table.Macros.pop.Goals.{in-Some, in_default}

made : (c : goal.Joined-get_mut) → macros_of (entries c.match-get_mut.self-inside.slots.entries) ≡ map.pop (macros_of (entries c.self.inside.slots.entries)) c.args.name.now
made c =
    elim c.match-get_mut.branch [
      | in-Some w ↦
          let h = (c.get_mut.follows.holds w.pop.new.self).3 (search (rules, w.in-Some.ensures.value)) in
          rw w.self-inside-is (macros_of-pop _ _ _ _ _ (found _ _ _ w.in-Some.ensures.value) (record {
            is_name = refl;
            here = h.1 ∙ ap (λ s. Some s) w.pop.ensures;
            others = h.3;
          }))
      | in_default w ↦ rw w.self-inside-is (macros_of-pop_absent _ _ _ (ap (λ m. m.entries) c.get_mut.follows.holds-at-none) w.in_default.ensures.value)
    ]

pub returns : goal.returns
returns c = rw (← c.self.view_is) (made c)

pub invariant_of-self : goal.invariant_of-self
invariant_of-self c = subst AreSound (sym (made c)) (AreSound-pop _ _ c.self.invariant)
