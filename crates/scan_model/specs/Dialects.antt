-- The edition of the language that the words of a command ask for.
use Rattle.std.specs.Prelude.{ℕ, nat_eq, if◌then◌else◌, List, [], ◌∷◌, drop, codes}
use Rattle.std.specs.List.{starts_with}
use Rattle.scan_model.specs.declared.command.Dialect.{Dialect}
use Rattle.scan_model.specs.declared.command.Dialect.TheVariants.{Cxx20, Cxx23}
use Rattle.scan_model.specs.Spelling.{is_one_of}

-- by what follows `-std=`
abbrev pub dialect_named : List ℕ → Dialect
dialect_named name =
    if is_one_of ("c++23" ∷ "c++2b" ∷ "c++26" ∷ "c++2c" ∷ "gnu++23" ∷ "gnu++2b" ∷ "gnu++26" ∷ "gnu++2c" ∷ []) name then Cxx23 else Cxx20

-- after one more word, which no other option takes
abbrev pub dialect_after : Dialect → List ℕ → Dialect
dialect_after dialect word = if starts_with nat_eq word (codes "-std=") then dialect_named (drop 5 word) else dialect

-- after these words, of which the last that names a standard counts
abbrev pub dialect_after_all : Dialect → List (List ℕ) → Dialect
dialect_after_all dialect [] = dialect
dialect_after_all dialect (word ∷ words) = dialect_after_all (dialect_after dialect word) words
