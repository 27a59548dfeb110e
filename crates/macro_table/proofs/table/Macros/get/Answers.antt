use Rattle.std.proofs.Common.{◌≡◌, sym, ◌∙◌, subst, Bor}
use Rattle.std.specs.Prelude.{Option, Some, None, IfSome}
use Rattle.std.specs.Option.{option_copied}
use Rattle.scan_model.specs.declared.macros.Def.{Def}
use Rattle.macro_table.specs.Definition.{Fits}
use Rattle.macro_table.proofs.Changes.{found, absent}
use Rattle.macro_table.proofs.table.Macros.get.Goals as goal

if_copied : (P : Def → Type 0) (o : Option (Bor Def)) (d : Option Def) → option_copied o ≡ d → IfSome d P → IfSome o (λ b. P b.now)
if_copied P None d e h = tt
if_copied P (Some b) d e h = let Q : Option Def → Type 0 = λ d. IfSome d P in subst Q (sym e) h

pub returns-in-Some-clause-value : goal.returns-in-Some-clause-value
returns-in-Some-clause-value c =
    rw (← c.self.view_is) (c.definition.ensures ∙ sym (found c.self.inside.slots.entries c.args.name.now c.in-Some.slot.now c.in-Some.ensures.value).0)

pub returns-in-Some-clause-sound : goal.returns-in-Some-clause-sound
returns-in-Some-clause-sound c =
    if_copied (Fits c.args.name.now) _ _ (c.definition.ensures ∙ sym (found c.self.inside.slots.entries c.args.name.now c.in-Some.slot.now c.in-Some.ensures.value).0)
    (c.self.invariant.current c.args.name.now)

pub returns-in-None-clause-value : goal.returns-in-None-clause-value
returns-in-None-clause-value c =
    rw (← c.self.view_is) (sym (absent c.self.inside.slots.entries c.args.name.now c.in-None.ensures.value).0)
