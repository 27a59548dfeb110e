-- Joins by `##`, item by item.
use Rattle.std.specs.Prelude.{Bool, true, false, Option, Some, None}
use Rattle.substitution.specs.declared.item.Item as code
use Rattle.substitution.specs.declared.item.Item.TheVariants as is
use Rattle.scan_model.specs.Substitution.{Item, Placemarker, Operand, Paste, spaced, join}

-- what a `##` makes of the item before it, and of the one after it, if there is one
abbrev pub joined_with : Item → Option Item → Option Item
joined_with left None = Some left
joined_with left (Some right) = join left right

-- the item isn't a placemarker
abbrev pub stands : code.Item → Bool
stands is.Placemarker = false
stands (is.Operand m) = true
stands (is.Paste m) = true

-- the item with this space, where it is a token
abbrev pub item_spaced : Bool → Item → Item
item_spaced space Placemarker = Placemarker
item_spaced space (Operand m) = Operand (spaced space m)
item_spaced space (Paste m) = Paste (spaced space m)
