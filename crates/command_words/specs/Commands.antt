-- The file that an entry's command reads first, and the one that it makes where it isn't told.
use Rattle.std.specs.Prelude.{ℕ, List, ◌++◌, codes}
use Rattle.std.specs.Option.{option_map_or}
use Rattle.std.specs.Path.{rsplit_once}
use Rattle.scan_model.specs.Paths.{normal, join}
use Rattle.compile_db.specs.declared.Entry.{Entry}

-- what follows the last `/`, or all where there is none
abbrev pub last_segment : List ℕ → List ℕ
last_segment file = option_map_or (λ parts. parts.1) (rsplit_once 47 file) file

-- what stands before the last `.`, or all where there is none
abbrev pub stem : List ℕ → List ℕ
stem name = option_map_or (λ parts. parts.0) (rsplit_once 46 name) name

-- what a compiler makes of the file where it isn't told
abbrev pub object_of : List ℕ → List ℕ
object_of file = stem (last_segment file) ++ codes ".o"

-- the main file, below the entry's directory
abbrev pub main_of : Entry → List ℕ
main_of entry = join (normal entry.directory) entry.file
