use Rattle.std.proofs.Common.{refl}
use Rattle.scan_model.specs.Macros.{built_ins}
use Rattle.macro_table.specs.Table.{macros_of}
use Rattle.macro_table.proofs.Changes.{AreSound-empty}
use Rattle.macro_table.proofs.table.Macros.new.Goals as goal

pub invariant_of-macros : goal.invariant_of-macros
invariant_of-macros c = rw c.new.ensures.empty AreSound-empty

pub returns : goal.returns
unfolding built_ins macros_of
returns c = rw (c.in_ok-set_built_in-9.ensures, c.in_ok-set_built_in-8.ensures, c.in_ok-set_built_in-7.ensures, c.in_ok-set_built_in-6.ensures, c.in_ok-set_built_in-5.ensures, c.in_ok-set_built_in-4.ensures, c.in_ok-set_built_in-3.ensures, c.in_ok-set_built_in-2.ensures, c.in_ok-set_built_in.ensures, c.new.ensures.empty) refl
