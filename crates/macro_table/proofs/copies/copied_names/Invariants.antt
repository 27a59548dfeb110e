use Rattle.std.proofs.Common.{◌≡◌, take}
use Rattle.macro_table.specs.Heads.{texts}
use Rattle.macro_table.proofs.copies.copied_names.Given as goal

abbrev pub invariant-loop-name : goal.invariant-loop-name
invariant-loop-name l = l.copies.items ≡ texts (take l.name-index l.names)
