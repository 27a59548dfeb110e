-- What a builder holds, as the definitions see it.
use Rattle.std.specs.Prelude.{ℕ, List, Option}
use Rattle.scan_model.specs.declared.unit_end.Provided.{Provided}
use Rattle.scan_model.specs.ModuleLines.{Builder}

-- the record so far, by its parts, and the name of the unit's module
abbrev pub builder_of : List ℕ → List ℕ → Option Provided → List (List ℕ) → Option (List ℕ) → Builder
builder_of output source provides required unit =
    record { so_far = record { output = output; source = source; provides = provides; required = required }; unit = unit }
