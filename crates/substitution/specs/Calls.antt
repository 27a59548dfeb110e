-- What the code's calls stand for, by a table of hide sets.
use Rattle.std.specs.Prelude.{◌≡◌, ℕ, Bool, true, false, not, ◌&&◌, List, [], ◌∷◌, ◌++◌, map, All, Option, Some, None, is_some, if◌then◌else◌, slice_index_or, drop}
use Rattle.hide_sets.specs.Sets.{Sets}
use Rattle.scan_model.specs.declared.token.Tok.{Tok}
use Rattle.std.specs.Borrow.{Bor}
use Rattle.scan_model.specs.declared.macros.FunctionDef.{FunctionDef}
use Rattle.scan_model.specs.TokenTests.{is_hash, is_paste, begins_with}
use Rattle.scan_model.specs.MacroDefinition.{all_params, is_opt}
use Rattle.scan_model.specs.Expansion.{arg_named}
use Rattle.scan_model.specs.Substitution as subst
use Rattle.substitution.specs.declared.marked.Arg.{Arg}
use Rattle.substitution.specs.declared.item.Item.{Item}
use Rattle.substitution.specs.declared.call.Call.{Call}
use Rattle.substitution.specs.declared.call.PartEnd.{PartEnd}
use Rattle.substitution.specs.Meaning.{arg_of, IsArg, items_of, AreItems}

-- an object-like macro's replacement
abbrev pub object_call : ℕ → subst.Call
object_call line = record { function = false; variadic = None; arg = λ name. None; line = line }

-- a call of a function-like macro
abbrev pub function_call : Sets → FunctionDef → List Arg → ℕ → subst.Call
function_call sets f args line =
    record { function = true; variadic = f.variadic; arg = arg_named (all_params f.params f.variadic) (map (arg_of sets) args); line = line }

-- by the definition; none for an object-like macro
abbrev pub call_by : Sets → List Arg → ℕ → Option (Bor FunctionDef) → subst.Call
call_by sets args line None = object_call line
call_by sets args line (Some f) = function_call sets f.now args line

abbrev pub call_of : Sets → Call → subst.Call
call_of sets c = call_by sets c.args.now c.line c.definition

-- the table has the hide sets of the arguments
abbrev pub AreArgs : Sets → List Arg → Type 0
AreArgs sets args = All (IsArg sets) args

-- ## What the code adds to its list

-- the list has grown by these items
pub record Adds (sets : Sets) (old new : List Item) (items : List subst.Item) : Type 0 where
  pub more : List Item
  pub grown : new ≡ old ++ more
  pub known : AreItems sets more
  pub meant : items_of sets more ≡ items

-- the list has grown by what a part gives, and this is what follows the part
pub record AddsPart (sets : Sets) (old new : List Item) (part : subst.Part) (end : PartEnd) : Type 0 where
  pub added : Adds sets old new part.items
  pub pasted : part.pasted ≡ end.pasted
  pub after : part.after ≡ end.after.now

-- the same, where the part gives something at all
abbrev pub GivesPart : Sets → List Item → List Item → Option subst.Part → Option PartEnd → Type 0
GivesPart sets old new None None = Unit {0}
GivesPart sets old new None (Some end) = ⊥
GivesPart sets old new (Some part) None = ⊥
GivesPart sets old new (Some part) (Some end) = AddsPart sets old new part end

-- ## `__VA_OPT__`

abbrev pub opt_after_hash : subst.Call → List Tok → Bool
opt_after_hash c [] = false
opt_after_hash c (u ∷ after) = not (is_some (subst.arg_at c u)) && (is_some c.variadic && is_opt u)

-- the part that begins with t is `__VA_OPT__`, or `# __VA_OPT__`
abbrev pub opt_comes : subst.Call → Tok → List Tok → Bool
opt_comes c t after =
    if c.function && is_hash t then opt_after_hash c after
    else not (is_paste t) && (not (is_some (subst.comma_part c t after)) && (is_some c.variadic && is_opt t))

-- ## Parts

-- what `, ## V` gives: the comma is t, the `##` and V begin what follows it
abbrev pub comma_part_of : subst.Call → Tok → List Tok → subst.Arg → subst.Part
comma_part_of c t after a = subst.part (subst.comma_items c t (slice_index_or after 1 t) a (begins_with is_paste (drop 2 after))) (drop 2 after)

-- the string is added, where there is one
abbrev pub AddsString : Sets → List Item → List Item → Option (List subst.Item) → Bool → Type 0
AddsString sets old new None true = ⊥
AddsString sets old new None false = new ≡ old
AddsString sets old new (Some items) true = Adds sets old new items
AddsString sets old new (Some items) false = ⊥

-- what follows the word of `__VA_OPT__` or `# __VA_OPT__`
abbrev pub after_word : subst.Call → Tok → List Tok → List Tok
after_word c t after = if c.function && is_hash t then drop 1 after else after

-- what `__VA_OPT__` gives, whose content has given the items; a string where `#`, the token t, stands before it
abbrev pub opt_result : subst.Call → Bool → Tok → List subst.Item → Option (List subst.Item)
opt_result c hashed t items =
    if hashed then subst.string_of c t (subst.toks (subst.without_placemarkers items))
    else Some (subst.first_item_spaced t.space (subst.or_placemarker items))
