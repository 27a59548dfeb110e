-- What the lists of the code stand for, by a table of hide sets.
use Rattle.std.specs.Prelude.{◌≡◌, List, map, All, Option, IfSome, unwrap_or, Vec}
use Rattle.std.specs.Option.{option_map}
use Rattle.std.specs.declared.alloc.Global.{Global}
use Rattle.hide_sets.specs.Sets.{Sets, IsSet, hides_of}
use Rattle.scan_model.specs.Substitution as subst
use Rattle.substitution.specs.declared.marked.Marked.{Marked}
use Rattle.substitution.specs.declared.marked.Arg.{Arg}
use Rattle.substitution.specs.declared.item.Item.{Item}
use Rattle.substitution.specs.declared.item.Item.TheVariants.{Placemarker, Operand, Paste}

abbrev pub marked_of : Sets → Marked → subst.Marked
marked_of sets m = record { tok = m.tok; hides = hides_of sets m.hides }

abbrev pub all_marked_of : Sets → List Marked → List subst.Marked
all_marked_of sets ms = map (marked_of sets) ms

-- an argument that isn't replaced by itself is taken as written
abbrev pub arg_of : Sets → Arg → subst.Arg
arg_of sets a = record { written = all_marked_of sets a.written; replaced = all_marked_of sets (unwrap_or a.replaced a.written) }

abbrev pub item_of : Sets → Item → subst.Item
item_of sets Placemarker = subst.Placemarker
item_of sets (Operand m) = subst.Operand (marked_of sets m)
item_of sets (Paste m) = subst.Paste (marked_of sets m)

abbrev pub items_of : Sets → List Item → List subst.Item
items_of sets items = map (item_of sets) items

-- ## Tokens whose hide sets the table has

abbrev pub IsMarked : Sets → Marked → Type 0
IsMarked sets m = IsSet sets m.hides

abbrev pub AreMarked : Sets → List Marked → Type 0
AreMarked sets ms = All (IsMarked sets) ms

pub record IsArg (sets : Sets) (a : Arg) : Type 0 where
  pub written : AreMarked sets a.written
  pub replaced : AreMarked sets (unwrap_or a.replaced a.written)

abbrev pub IsItem : Sets → Item → Type 0
IsItem sets Placemarker = Unit {0}
IsItem sets (Operand m) = IsMarked sets m
IsItem sets (Paste m) = IsMarked sets m

abbrev pub AreItems : Sets → List Item → Type 0
AreItems sets items = All (IsItem sets) items

-- ## What the code answers

-- an item, where the definition gives one
pub record GivesItem (sets : Sets) (item : Option subst.Item) (given : Option Item) : Type 0 where
  pub known : IfSome given (IsItem sets)
  pub meant : option_map (item_of sets) given ≡ item

-- a list of items, where the definition gives one
pub record GivesItems (sets : Sets) (items : Option (List subst.Item)) (given : Option (Vec Item Global)) : Type 0 where
  pub known : IfSome given (λ v. AreItems sets v.items)
  pub meant : option_map (λ v. items_of sets v.items) given ≡ items

-- a list of tokens, where the definition gives one
pub record GivesMarked (sets : Sets) (list : Option (List subst.Marked)) (given : Option (List Marked)) : Type 0 where
  pub known : IfSome given (AreMarked sets)
  pub meant : option_map (all_marked_of sets) given ≡ list
