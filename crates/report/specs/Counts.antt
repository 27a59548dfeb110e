-- What a run over a made tree tells of itself in place of the document.
use Rattle.std.specs.Prelude.{ℕ, Bool, true, false, List, [], ◌∷◌, ◌++◌, length, filter, codes, decimal}
use Rattle.scan_model.specs.declared.unit_end.UnitEnd.{UnitEnd}
use Rattle.scan_model.specs.declared.unit_end.UnitEnd.TheVariants as ends

abbrev pub is_record : UnitEnd → Bool
is_record (ends.Record r) = true
is_record end = false

-- a fault in a file's text, not a refused command or want of memory
abbrev pub is_stopped : UnitEnd → Bool
is_stopped (ends.Stopped fault) = true
is_stopped end = false

-- a line of a name, with a blank, and a count
abbrev pub count_line : List ℕ → ℕ → List ℕ
count_line name count = name ++ decimal count ++ 10 ∷ []

-- how many commands there were, how many of them ended with a record and how many with a fault, and how many paths were read
abbrev pub summary : List UnitEnd → ℕ → List ℕ
summary ends paths =
    count_line (codes "commands ") (length ends)
    ++ count_line (codes "records ") (length (filter is_record ends))
    ++ count_line (codes "faults ") (length (filter is_stopped ends))
    ++ count_line (codes "paths ") paths
