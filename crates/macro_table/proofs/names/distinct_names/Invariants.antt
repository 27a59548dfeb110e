use Rattle.std.proofs.Common.{◌≡◌, ℕ, List, true, take}
use Rattle.scan_model.specs.MacroDefinition.{are_distinct}
use Rattle.scan_model.specs.TokenTests.{is_among}
use Rattle.macro_table.specs.Heads.{texts}
use Rattle.macro_table.specs.Names.{has_name}
use Rattle.macro_table.proofs.names.distinct_names.Given as goal

-- the set has the names so far, which are distinct
abbrev pub invariant-loop-name : goal.invariant-loop-name
invariant-loop-name l = ((q : List ℕ) → has_name l.set.keys q ≡ is_among (texts (take l.name-index l.names)) q) × (are_distinct (texts (take l.name-index l.names)) ≡ true)
