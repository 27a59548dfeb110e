use Rattle.std.proofs.Common.{sym, subst}
use Rattle.macro_table.specs.Definition.{Fits}
use Rattle.macro_table.proofs.Changes.{Fits-definition}
use Rattle.macro_table.proofs.table.Macros.define_shared.Goals as goal

pub set_shared-requires : goal.set_shared-requires
set_shared-requires c = subst (Fits c.args.name.now) (sym c.in_ok-shared.ensures) (Fits-definition _ _ c.requires)
