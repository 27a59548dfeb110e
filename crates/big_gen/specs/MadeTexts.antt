-- The texts of a made tree.
use Rattle.std.specs.Prelude.{ℕ, ◌+◌, ◌-◌, ◌*◌, ◌/◌, ◌%◌, nat_lt, if◌then◌else◌, List, [], ◌++◌, map, codes, decimal}
use Rattle.std.specs.List.{range_with_len, concat}
use Rattle.file_source.specs.declared.made_file.MadeFile.{MadeFile}
use Rattle.scan_model.specs.Paths.{normal}

-- ## The files

abbrev pub include_text : ℕ → List ℕ
include_text header = codes "#include \"h" ++ decimal header ++ codes ".h\"\n"

abbrev pub import_text : ℕ → List ℕ
import_text unit = codes "import m" ++ decimal unit ++ codes ";\n"

-- a header includes that of half its number, but the first includes none
abbrev pub parent_text : ℕ → List ℕ
parent_text header = if nat_lt 1 header then include_text (header / 2) else []

-- what a header defines and declares
abbrev pub own_text : ℕ → List ℕ
own_text header = codes "#define H" ++ decimal header ++ codes " 1\n" ++ codes "int f" ++ decimal header ++ codes "(int);\n"

abbrev pub header_text : ℕ → List ℕ
header_text header = codes "#pragma once\n" ++ parent_text header ++ own_text header

-- the header that a unit includes
abbrev pub header_of : ℕ → ℕ
header_of unit = 7 * unit % 64 + 1

-- a unit is a module where the macros of its header and of the first are defined
abbrev pub condition_text : ℕ → List ℕ
condition_text header = codes "#if defined(H" ++ decimal header ++ codes ") && H1\n"

abbrev pub module_text : ℕ → List ℕ
module_text unit = codes "export module m" ++ decimal unit ++ codes ";\n#endif\n"

-- it imports that of half its number, but the first imports none
abbrev pub needs_text : ℕ → List ℕ
needs_text unit = if nat_lt 1 unit then import_text (unit / 2) else []

abbrev pub function_text : ℕ → List ℕ
function_text unit = codes "int g" ++ decimal unit ++ codes "();\n"

abbrev pub unit_text : ℕ → List ℕ
unit_text unit =
    include_text (header_of unit) ++ condition_text (header_of unit) ++ module_text unit ++ needs_text unit ++ function_text unit

unfoldable pub made_header : ℕ → MadeFile
made_header header = record { path = normal (codes "/m/h" ++ decimal header ++ codes ".h"); text = header_text header }

unfoldable pub made_unit : ℕ → MadeFile
made_unit unit = record { path = normal (codes "/m/u" ++ decimal unit ++ codes ".cppm"); text = unit_text unit }

-- the 64 headers, and then the units 1 to n
abbrev pub made_files : ℕ → List MadeFile
made_files n = map made_header (range_with_len 1 64) ++ map made_unit (range_with_len 1 n)

-- ## The database

abbrev pub file_text : ℕ → List ℕ
file_text unit = codes "{\"directory\":\"/m\",\"file\":\"u" ++ decimal unit ++ codes ".cppm\","

abbrev pub words_text : ℕ → List ℕ
words_text unit = codes "\"arguments\":[\"c++\",\"-c\",\"u" ++ decimal unit ++ codes ".cppm\"]}"

abbrev pub entry_text : ℕ → List ℕ
entry_text unit = file_text unit ++ words_text unit

-- one after the first
unfoldable pub entry_line : ℕ → List ℕ
entry_line unit = codes ",\n" ++ entry_text unit

-- an entry for each unit, in order
abbrev pub made_database : ℕ → List ℕ
made_database n = codes "[\n" ++ entry_text 1 ++ concat (map entry_line (range_with_len 2 (n - 1))) ++ codes "\n]\n"
