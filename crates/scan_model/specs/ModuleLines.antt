-- What one module or import line adds to a unit's record ([module.unit], [module.import]).
use Rattle.std.specs.Prelude.{ℕ, Bool, true, false, ◌&&◌, ◌||◌, if◌then◌else◌, List, [], ◌∷◌, ◌++◌, Option, Some, None, is_some, codes}
use Rattle.std.specs.Option.{option_map, option_map_or}
use Rattle.std.specs.declared.result.Result.{Result}
use Rattle.std.specs.declared.result.Result.TheVariants.{Ok, Err}
use Rattle.scan_model.specs.declared.token.Kind.TheVariants.{Ident, Str, Header}
use Rattle.scan_model.specs.declared.token.Tok.{Tok}
use Rattle.scan_model.specs.declared.module_line.Keyword.{Keyword}
use Rattle.scan_model.specs.declared.module_line.Keyword.TheVariants.{Module, Import}
use Rattle.scan_model.specs.declared.module_line.ModuleFault.{ModuleFault}
use Rattle.scan_model.specs.declared.module_line.ModuleFault.TheVariants.{BadModuleLine, SecondModule, PartitionOutsideModule, HeaderUnit}
use Rattle.scan_model.specs.declared.unit_end.Record.{Record}
use Rattle.scan_model.specs.Spelling.{spells}
use Rattle.scan_model.specs.TokenTests.{is_of, is_sign, is_among, begins_with}

-- the record so far, and the name of the unit's module
pub record Builder : Type 0 where
  pub so_far : Record
  pub unit : Option (List ℕ)

-- what stands before the first `;`; none where there is none
abbrev pub statement : List Tok → Option (List Tok)
statement [] = None
statement (t ∷ ts) = let further = option_map (t ∷◌) (statement ts) in if is_sign (";" ∷ []) t then Some [] else further

-- identifiers joined by `.`, and what follows them
pub record Dotted : Type 0 where
  pub name : List ℕ
  pub after : List Tok

abbrev pub after_text : List ℕ → Dotted → Dotted
after_text s d = record d { name = s ++ d.name }

abbrev pub dotted_rest : List Tok → Dotted
dotted_rest (d ∷ t ∷ ts) = let further = after_text (46 ∷ t.text) (dotted_rest ts) in
    if is_sign ("." ∷ []) d && is_of Ident t then further else record { name = []; after = d ∷ t ∷ ts }
dotted_rest ts = record { name = []; after = ts }

abbrev pub dotted : List Tok → Option Dotted
dotted [] = None
dotted (t ∷ ts) = let whole = after_text t.text (dotted_rest ts) in if is_of Ident t then Some whole else None

-- what a line is about
pub data Subject : Type 0 where
  Empty : Subject
  Private : Subject
  Name : List ℕ → Subject
  Partition : List ℕ → Subject
  NameAndPartition : List ℕ → List ℕ → Subject

-- the name ends the line, or a `[` follows it
abbrev pub is_ended : List Tok → Bool
is_ended [] = true
is_ended (t ∷ ts) = is_sign ("[" ∷ "<:" ∷ []) t

abbrev pub ended : Dotted → Subject → Option Subject
ended d subject = if is_ended d.after then Some subject else None

-- after a `:`
abbrev pub partition : (List ℕ → Subject) → List Tok → Option Subject
partition subject ts = option_map_or (λ d. ended d (subject d.name)) (dotted ts) None

abbrev pub after_name : Dotted → Option Subject
after_name d = elim (d.after) [
  | [] ↦ Some (Name d.name)
  | t ∷ ts ↦ let part = partition (NameAndPartition d.name) ts in if is_sign (":" ∷ []) t then part else ended d (Name d.name)
]

abbrev pub is_private : List Tok → Bool
is_private (t ∷ []) = spells "private" t.text
is_private ts = false

abbrev pub subject : List Tok → Option Subject
subject [] = Some Empty
subject (t ∷ ts) =
    let part = partition Partition ts in
    let named = option_map_or after_name (dotted (t ∷ ts)) None in
    if is_sign (":" ∷ []) t then (if is_private ts then Some Private else part) else named

-- each name once, in the order of first appearance
abbrev pub requiring : List ℕ → Builder → Builder
requiring name b =
    record b { so_far = record b.so_far { required = if is_among b.so_far.required name then b.so_far.required else b.so_far.required ++ name ∷ [] } }

abbrev pub providing : List ℕ → Bool → Builder → Builder
providing name interface b = record b { so_far = record b.so_far { provides = Some (record { name = name; interface = interface }) } }

abbrev pub in_module : List ℕ → Builder → Builder
in_module name b = record b { unit = Some name }

abbrev pub with_part : List ℕ → List ℕ → List ℕ
with_part name part = name ++ 58 ∷ part

-- a named module line
abbrev pub named_module : Builder → Builder → Result Builder ModuleFault
named_module b after = if is_some b.unit then Err SecondModule else Ok after

abbrev pub take_module : Bool → Builder → Option Subject → Result Builder ModuleFault
take_module true b (Some (Name name)) = named_module b (in_module name (providing name true b))
take_module false b (Some (Name name)) = named_module b (in_module name (requiring name b))
take_module exported b (Some (NameAndPartition name part)) = named_module b (in_module name (providing (with_part name part) exported b))
take_module false b (Some Empty) = Ok b
take_module false b (Some Private) = Ok b
take_module exported b other = Err BadModuleLine

abbrev pub partition_import : List ℕ → Builder → Option (List ℕ) → Result Builder ModuleFault
partition_import part b None = Err PartitionOutsideModule
partition_import part b (Some name) = Ok (requiring (with_part name part) b)

abbrev pub take_import : Builder → Option Subject → Result Builder ModuleFault
take_import b (Some (Name name)) = Ok (requiring name b)
take_import b (Some (Partition part)) = partition_import part b b.unit
take_import b (Some Private) = partition_import (codes "private") b b.unit
take_import b other = Err BadModuleLine

abbrev pub names_header : Tok → Bool
names_header t = is_of Header t || is_of Str t || is_sign ("<" ∷ []) t

abbrev pub take_keyword : Keyword → Bool → Builder → Option (List Tok) → Result Builder ModuleFault
take_keyword keyword exported b None = Err BadModuleLine
take_keyword Module exported b (Some ts) = take_module exported b (subject ts)
take_keyword Import exported b (Some ts) = take_import b (subject ts)

abbrev pub is_header_import : Keyword → List Tok → Bool
is_header_import Module ts = false
is_header_import Import ts = begins_with names_header ts

-- one module or import line: the builder after it, or the fault
unfoldable pub take : Builder → Bool → Keyword → List Tok → Result Builder ModuleFault
take b exported keyword toks = let taken = take_keyword keyword exported b (statement toks) in
    if is_header_import keyword toks then Err HeaderUnit else taken

unfoldable pub new : List ℕ → List ℕ → Builder
new output source = record { so_far = record { output = output; source = source; provides = None; required = [] }; unit = None }
