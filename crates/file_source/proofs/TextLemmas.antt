-- Texts that are put into a map by their paths.
use Rattle.std.proofs.Common.{◌≡◌, ℕ, cond, Some, List, ◌∷◌, ap, ◌∙◌}
use Rattle.std.specs.Str.{bytes_eq}
use Rattle.std.specs.declared.alloc.Global.{Global}
use Rattle.std.specs.declared.vec.Vec.{Vec}
use Rattle.file_source.specs.declared.made_file.MadeFile.{MadeFile}
use Rattle.byte_keys.specs.Maps.{IsPut}
use Rattle.file_source.specs.Texts.{AreListed}

-- one file more before the others
pub one_listed : (file : MadeFile) (files : List MadeFile) (old new : List (Vec ℕ Global × List ℕ)) → IsPut file.path file.text old new → AreListed files old → AreListed (file ∷ files) new
one_listed file files old new put listed path = put path ∙ ap (cond (bytes_eq file.path path) (Some file.text)) (listed path)
