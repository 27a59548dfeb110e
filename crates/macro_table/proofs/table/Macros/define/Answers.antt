use Rattle.macro_table.proofs.Changes.{Fits-definition}
use Rattle.macro_table.proofs.table.Macros.define.Goals as goal

pub set-requires : goal.set-requires
set-requires c = rw c.as_slice.ensures (Fits-definition _ _ c.requires)
