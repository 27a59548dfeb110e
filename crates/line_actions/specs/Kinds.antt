-- Directives by what they are of ([cpp.pre]).
use Rattle.std.specs.Prelude.{Bool, true, false, if◌then◌else◌, List}
use Rattle.scan_model.specs.declared.directive.Directive.{Directive}
use Rattle.scan_model.specs.declared.directive.Directive.TheVariants.{If, Ifdef, Ifndef, Elif, Elifdef, Elifndef, Else, Endif, Define, Undef, Include, IncludeNext, Renumber, Error, Pragma, Nothing, Unknown}
use Rattle.scan_model.specs.State.{Group}
use Rattle.scan_model.specs.Conditionals.{is_skipped}
use Rattle.plain_lines.specs.declared.action.Action.{Action}
use Rattle.plain_lines.specs.declared.action.Action.TheVariants.{Goes, Skips, Stops}

-- it opens a conditional
abbrev pub is_if : Directive → Bool
is_if If = true
is_if Ifdef = true
is_if Ifndef = true
is_if other = false

-- it begins a further group of one
abbrev pub is_next : Directive → Bool
is_next Elif = true
is_next Elifdef = true
is_next Elifndef = true
is_next Else = true
is_next other = false

-- it ends one
abbrev pub is_endif : Directive → Bool
is_endif Endif = true
is_endif other = false

-- it is none of conditionals
abbrev pub is_plain : Directive → Bool
is_plain Define = true
is_plain Undef = true
is_plain Include = true
is_plain IncludeNext = true
is_plain Renumber = true
is_plain Error = true
is_plain Pragma = true
is_plain Nothing = true
is_plain Unknown = true
is_plain other = false

-- a line that began a group goes on, and skips where the group isn't live
abbrev pub or_skips : List Group → Action → Action
or_skips groups Goes = if is_skipped groups then Skips else Goes
or_skips groups action = action

-- the line goes on, or it is a fault
abbrev pub goes_or_stops : Action → Bool
goes_or_stops Goes = true
goes_or_stops (Stops kind) = true
goes_or_stops action = false
