-- A table of macros as the list of its names, each with what it has.
use Rattle.std.specs.Prelude.{ℕ, List, [], ◌∷◌, Option, Some, None}
use Rattle.std.specs.Option.{option_and_then, option_map_or}
use Rattle.std.specs.Map.{lookup}
use Rattle.scan_model.specs.declared.macros.Def.{Def}
use Rattle.scan_model.specs.Macros.{Macros}
use Rattle.scan_model.specs.TokenTests.{same}

-- what a name has: its definition, where it has one, and of the saved ones the last is first
pub record SlotView : Type 0 where
  pub current : Option Def
  pub saved : List (Option Def)

abbrev pub fresh : SlotView
fresh = record { current = None; saved = [] }

abbrev pub defined : Def → SlotView → SlotView
defined def s = record s { current = Some def }

abbrev pub undefined : SlotView → SlotView
undefined s = record s { current = None }

abbrev pub saving : SlotView → SlotView
saving s = record s { saved = s.current ∷ s.saved }

abbrev pub restored_from : SlotView → List (Option Def) → SlotView
restored_from s [] = s
restored_from s (def ∷ defs) = record { current = def; saved = defs }

abbrev pub restored : SlotView → SlotView
restored s = restored_from s s.saved

abbrev pub slot_of : List ℕ → List (List ℕ × SlotView) → Option SlotView
slot_of name table = lookup (same name) table

-- the map that a table is
unfoldable pub macros_of : List (List ℕ × SlotView) → Macros
macros_of table = record {
  defs = λ name. option_and_then (λ s. s.current) (slot_of name table);
  saved = λ name. option_map_or (λ s. s.saved) (slot_of name table) [];
}
