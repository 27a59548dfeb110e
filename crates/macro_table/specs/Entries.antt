-- What the fields of a table are seen as.
use Rattle.std.specs.Prelude.{ℕ, List, Option, map, reverse}
use Rattle.std.specs.Option.{option_map}
use Rattle.std.specs.declared.alloc.Global.{Global}
use Rattle.std.specs.declared.sync.Arc.{Arc}
use Rattle.std.specs.declared.vec.Vec.{Vec}
use Rattle.scan_model.specs.declared.macros.Def.{Def}
use Rattle.byte_keys.specs.Maps.{entry_by}
use Rattle.macro_table.specs.Table.{SlotView}

abbrev pub shared : Option (Arc Def Global) → Option Def
shared def = option_map (λ d. d.value) def

-- a stack whose top is at the end of the list
abbrev pub shared_stack : List (Option (Arc Def Global)) → List (Option Def)
shared_stack defs = reverse (map shared defs)

-- what each name has
abbrev pub entries : List (Vec ℕ Global × SlotView) → List (List ℕ × SlotView)
entries es = map (entry_by (λ s. s)) es
