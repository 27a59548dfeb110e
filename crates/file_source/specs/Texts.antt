-- What a map gives for a path.
use Rattle.std.specs.Prelude.{◌≡◌, ℕ, Option, List}
use Rattle.std.specs.Map.{lookup}
use Rattle.std.specs.declared.alloc.Global.{Global}
use Rattle.std.specs.declared.vec.Vec.{Vec}
use Rattle.byte_keys.specs.Maps.{is_at}
use Rattle.file_source.specs.declared.made_file.MadeFile.{MadeFile}
use Rattle.file_source.specs.Made.{text_at}

-- the text that a map's entries have for the path
abbrev pub text_in : List (Vec ℕ Global × List ℕ) → List ℕ → Option (List ℕ)
text_in entries path = lookup (is_at path) entries

-- each path has the first text that is listed for it
abbrev pub AreListed : List MadeFile → List (Vec ℕ Global × List ℕ) → Type 0
AreListed files entries = (path : List ℕ) → text_in entries path ≡ text_at files path
