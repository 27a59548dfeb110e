-- The directive of a line by its word's number, and by the dialect ([cpp.pre]).
use Rattle.std.specs.Prelude.{ℕ, ◌==◌, if◌then◌else◌, Option, Some, None}
use Rattle.scan_model.specs.declared.command.Dialect.{Dialect}
use Rattle.scan_model.specs.declared.command.Dialect.TheVariants.{Cxx20, Cxx23}
use Rattle.scan_model.specs.declared.directive.Directive.{Directive}
use Rattle.scan_model.specs.declared.directive.Directive.TheVariants.{If, Ifdef, Ifndef, Elif, Elifdef, Elifndef, Else, Endif, Define, Undef, Include, IncludeNext, Renumber, Error, Pragma, Nothing, Unknown}

-- the directive whose name has this number among the names of directives
abbrev pub numbered : ℕ → Directive
numbered n =
    if n == 0 then Define else if n == 1 then Undef
    else if n == 2 then If else if n == 3 then Elif else if n == 4 then Ifdef else if n == 5 then Ifndef else if n == 6 then Else else if n == 7 then Endif
    else if n == 8 then Include else if n == 9 then Renumber else if n == 10 then Error else if n == 11 then Pragma else if n == 12 then Nothing
    else if n == 13 then Nothing else if n == 14 then Elifdef else if n == 15 then Elifndef else if n == 16 then IncludeNext else Unknown

abbrev pub directive_numbered : Option ℕ → Directive
directive_numbered None = Unknown
directive_numbered (Some n) = numbered n

-- a directive of C++23 as the dialect has it
abbrev pub in_dialect : Dialect → Directive → Directive
in_dialect Cxx23 directive = directive
in_dialect Cxx20 Elifdef = Unknown
in_dialect Cxx20 Elifndef = Unknown
in_dialect Cxx20 directive = directive
