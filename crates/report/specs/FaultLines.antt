-- The line that reports a command that was not scanned to its end.
use Rattle.std.specs.Prelude.{ℕ, List, [], ◌∷◌, ◌++◌, codes, decimal, ⊤}
use Rattle.scan_model.specs.declared.command.CommandFault.{CommandFault}
use Rattle.scan_model.specs.declared.command.CommandFault.TheVariants.{UnsupportedOption, BadCommand}
use Rattle.scan_model.specs.declared.unit_end.Place.{Place}
use Rattle.scan_model.specs.declared.unit_end.FaultKind.{FaultKind}
use Rattle.scan_model.specs.declared.unit_end.FaultKind.TheVariants.{MainMissing, ReadFault, FileTooLarge, IncludeNotFound, IncludeSyntax, BadDefine, BadCondition, DivisionByZero, BadShift, BadNumber, ConditionTooDeep, Unbalanced, ErrorDirective, UnknownDirective, BadLine, ExpansionFault, ExpansionTooLong, TooDeep, TooManyEntered, BadModuleLine, SecondModule, PartitionOutsideModule, KeywordIsMacro, HeaderUnit, CounterUsed}
use Rattle.scan_model.specs.declared.unit_end.UnitEnd.{UnitEnd}
use Rattle.scan_model.specs.declared.unit_end.UnitEnd.TheVariants as ends

-- an end that is no record
abbrev pub IsFault : UnitEnd → Type 0
IsFault (ends.Record r) = ⊥
IsFault (ends.Stopped fault) = ⊤
IsFault (ends.Refused fault) = ⊤
IsFault ends.NoMemory = ⊤

-- what a line calls each kind of fault
unfoldable pub fault_name : FaultKind → List ℕ
fault_name MainMissing = codes "MainMissing"
fault_name ReadFault = codes "ReadFault"
fault_name FileTooLarge = codes "FileTooLarge"
fault_name IncludeNotFound = codes "IncludeNotFound"
fault_name IncludeSyntax = codes "IncludeSyntax"
fault_name BadDefine = codes "BadDefine"
fault_name BadCondition = codes "BadCondition"
fault_name DivisionByZero = codes "DivisionByZero"
fault_name BadShift = codes "BadShift"
fault_name BadNumber = codes "BadNumber"
fault_name ConditionTooDeep = codes "ConditionTooDeep"
fault_name Unbalanced = codes "Unbalanced"
fault_name ErrorDirective = codes "ErrorDirective"
fault_name UnknownDirective = codes "UnknownDirective"
fault_name BadLine = codes "BadLine"
fault_name ExpansionFault = codes "ExpansionFault"
fault_name ExpansionTooLong = codes "ExpansionTooLong"
fault_name TooDeep = codes "TooDeep"
fault_name TooManyEntered = codes "TooManyEntered"
fault_name BadModuleLine = codes "BadModuleLine"
fault_name SecondModule = codes "SecondModule"
fault_name PartitionOutsideModule = codes "PartitionOutsideModule"
fault_name KeywordIsMacro = codes "KeywordIsMacro"
fault_name HeaderUnit = codes "HeaderUnit"
fault_name CounterUsed = codes "CounterUsed"

abbrev pub command_fault_name : CommandFault → List ℕ
command_fault_name UnsupportedOption = codes "UnsupportedOption"
command_fault_name BadCommand = codes "BadCommand"

-- the path, the line and a space
abbrev pub place_text : Place → List ℕ
place_text place = place.path ++ codes ":" ++ decimal place.line ++ codes ": "

-- what a line says of a fault; no line is written for a record
abbrev pub end_text : UnitEnd → List ℕ
end_text (ends.Record r) = []
end_text (ends.Stopped fault) = place_text fault.place ++ fault_name fault.kind
end_text (ends.Refused fault) = command_fault_name fault
end_text ends.NoMemory = codes "NoMemory"

-- the line of the command with this number, with its newline
abbrev pub fault_line : ℕ → UnitEnd → List ℕ
fault_line number end = codes "command " ++ decimal number ++ codes ": " ++ end_text end ++ 10 ∷ []
