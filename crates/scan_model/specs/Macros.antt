-- Macro definitions, and those that `push_macro` saved ([cpp.replace], [cpp.predefined]).
use Rattle.std.specs.Prelude.{ℕ, false, if◌then◌else◌, List, [], ◌∷◌, Option, Some, None, codes}
use Rattle.scan_model.specs.declared.token.Kind.TheVariants.{Number}
use Rattle.scan_model.specs.declared.macros.Def.{Def}
use Rattle.scan_model.specs.declared.macros.Def.TheVariants as DefIs
use Rattle.scan_model.specs.declared.macros.BuiltIn.TheVariants as BuiltInIs
use Rattle.scan_model.specs.declared.command.Dialect.{Dialect}
use Rattle.scan_model.specs.declared.command.Dialect.TheVariants.{Cxx20, Cxx23}
use Rattle.scan_model.specs.Spelling.{spells}
use Rattle.scan_model.specs.TokenTests.{same}

-- A map tells what a name has: none, or its definition; and of the saved ones the last is first.
pub record Macros : Type 0 where
  pub defs : List ℕ → Option Def
  pub saved : List ℕ → List (Option Def)

-- the map that has x at the name and is otherwise as before
abbrev pub put : {X : Type 0} → (List ℕ → X) → List ℕ → X → List ℕ → X
put map name x other = if same name other then x else map other

abbrev pub built_in : List ℕ → Option Def
built_in name =
    if spells "__FILE__" name then Some (DefIs.BuiltIn BuiltInIs.File)
    else if spells "__LINE__" name then Some (DefIs.BuiltIn BuiltInIs.Line)
    else if spells "__DATE__" name then Some (DefIs.BuiltIn BuiltInIs.Date)
    else if spells "__TIME__" name then Some (DefIs.BuiltIn BuiltInIs.Time)
    else if spells "__COUNTER__" name then Some (DefIs.BuiltIn BuiltInIs.Counter)
    else if spells "__cplusplus" name then Some (DefIs.BuiltIn BuiltInIs.Cplusplus)
    else if spells "__has_include" name then Some (DefIs.BuiltIn BuiltInIs.HasInclude)
    else if spells "__has_include_next" name then Some (DefIs.BuiltIn BuiltInIs.HasIncludeNext)
    else if spells "__has_cpp_attribute" name then Some (DefIs.BuiltIn BuiltInIs.HasAttribute)
    else None

unfoldable pub built_ins : Macros
built_ins = record { defs = built_in; saved = λ name. [] }

abbrev pub define : Macros → List ℕ → Def → Macros
define m name def = record m { defs = put m.defs name (Some def) }

abbrev pub undef : Macros → List ℕ → Macros
undef m name = record m { defs = put m.defs name None }

-- ## The map that a unit begins with

-- in C++23 `__cplusplus` is an ordinary macro
abbrev pub cplusplus_23 : Def
cplusplus_23 = DefIs.Object (record { kind = Number; text = codes "202302L"; space = false; line = 0 } ∷ [])

abbrev pub first_macros : Dialect → Macros
first_macros Cxx20 = built_ins
first_macros Cxx23 = define built_ins (codes "__cplusplus") cplusplus_23

-- ## Saved definitions

-- saves the name's definition, or that it has none
abbrev pub push : Macros → List ℕ → Macros
push m name = record m { saved = put m.saved name (m.defs name ∷ m.saved name) }

-- restores the last saved one; nothing happens where there is none
abbrev pub restored : Macros → List ℕ → List (Option Def) → Macros
restored m name [] = m
restored m name (def ∷ defs) = record { defs = put m.defs name def; saved = put m.saved name defs }

abbrev pub pop : Macros → List ℕ → Macros
pop m name = restored m name (m.saved name)
