-- What a list of made files gives for a path.
use Rattle.std.specs.Prelude.{ℕ, Option, Some, None, List, [], ◌∷◌, if◌then◌else◌}
use Rattle.std.specs.Str.{bytes_eq}
use Rattle.file_source.specs.declared.made_file.MadeFile.{MadeFile}
use Rattle.file_source.specs.declared.given.Came.{Came}
use Rattle.file_source.specs.declared.given.Came.TheVariants.{Absent}
use Rattle.file_source.specs.CameOf.{came_of_bytes}

-- the first text that is listed for the path
abbrev pub text_at : List MadeFile → List ℕ → Option (List ℕ)
text_at [] path = None
text_at (file ∷ files) path = if bytes_eq file.path path then Some file.text else text_at files path

-- Present with the text, Big where it has too many bytes, and Absent where there is none
abbrev pub came_of_text : Option (List ℕ) → Came
came_of_text None = Absent
came_of_text (Some text) = came_of_bytes text

-- what comes of a read of the path
abbrev pub came_at : List MadeFile → List ℕ → Came
came_at files path = came_of_text (text_at files path)
