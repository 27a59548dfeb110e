-- What an answer tells of a file.
use Rattle.std.specs.Prelude.{List}
use Rattle.std.specs.Arc.{arc_value}
use Rattle.scan_model.specs.declared.token.Line.{Line}
use Rattle.scan_model.specs.Files.{Content}
use Rattle.scan_model.specs.Files as file
use Rattle.reducer.specs.declared.answer.Answer.{Answer}
use Rattle.reducer.specs.declared.answer.Answer.TheVariants.{Lines, Absent, Failed, Big, NoMemory}

abbrev pub content_of : Answer → Content (List Line)
content_of (Lines lines) = file.Present (arc_value lines)
content_of Absent = file.Absent
content_of Failed = file.Failed
content_of Big = file.Big
content_of NoMemory = file.NoMemory

-- the file is there
abbrev pub HasLines : Answer → Type 0
HasLines (Lines lines) = Unit {0}
HasLines answer = ⊥
