use Rattle.std.proofs.Common.{◌≡◌, ◌++◌, List, vec_len}
use Rattle.file_source.specs.declared.made_file.MadeFile.{MadeFile}
use Rattle.file_source.specs.Texts.{AreListed}
use Rattle.file_source.proofs.plain_source.texts_of.Given as goal

abbrev pub invariant-files : goal.invariant-files
invariant-files l = (done : List MadeFile) × (l.fn.files ≡ l.left.items ++ done) × AreListed done l.texts.entries

abbrev pub decreases-files : goal.decreases-files
decreases-files l = vec_len l.left
