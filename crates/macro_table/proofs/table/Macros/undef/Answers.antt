use Rattle.std.proofs.Common.{◌≡◌, refl, sym, ◌∙◌, ap, subst, rules, Some}
use Rattle.scan_model.specs.Macros as map
use Rattle.macro_table.specs.Table.{macros_of}
use Rattle.macro_table.specs.Entries.{entries}
use Rattle.macro_table.specs.Definition.{AreSound}
use Rattle.macro_table.proofs.Changes.{found, macros_of-undef, macros_of-undef_absent, AreSound-undef}
use Rattle.macro_table.proofs.table.Macros.undef.Goals as goal
use Rattle.macro_table.proofs.table.Macros.undef.Goals.{in-Some, in_default}

made : (c : goal.Joined-get_mut) → macros_of (entries c.match-get_mut.self-inside.slots.entries) ≡ map.undef (macros_of (entries c.self.inside.slots.entries)) c.args.name.now
made c =
    elim c.match-get_mut.branch [
      | in-Some w ↦
          let h = (c.get_mut.follows.holds w.undef.new.self).3 (search (rules, w.in-Some.ensures.value)) in
          rw w.self-inside-is (macros_of-undef _ _ _ _ _ (found _ _ _ w.in-Some.ensures.value) (record {
            is_name = refl;
            here = h.1 ∙ ap (λ s. Some s) w.undef.ensures;
            others = h.3;
          }))
      | in_default w ↦ rw w.self-inside-is (macros_of-undef_absent _ _ _ (ap (λ m. m.entries) c.get_mut.follows.holds-at-none) w.in_default.ensures.value)
    ]

pub returns : goal.returns
returns c = rw (← c.self.view_is) (made c)

pub invariant_of-self : goal.invariant_of-self
invariant_of-self c = subst AreSound (sym (made c)) (AreSound-undef _ _ c.self.invariant)
