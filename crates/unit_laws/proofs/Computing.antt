-- One name to unfold where a proof computes a whole unit.
use Rattle.std.specs.Fmt.{digits}
use Rattle.scan_model.specs.Paste.{paste}
use Rattle.scan_model.specs.Macros.{built_ins}
use Rattle.scan_model.specs.MacroDefinition.{read_define}
use Rattle.scan_model.specs.Substitution.{subst, is_replaced}
use Rattle.scan_model.specs.Expansion.{expand}
use Rattle.scan_model.specs.HeaderName.{name_of, next_has, terms}
use Rattle.scan_model.specs.Literals.{integer, char_value}
use Rattle.scan_model.specs.ConditionTree.{tree}
use Rattle.scan_model.specs.Condition.{value}
use Rattle.scan_model.specs.Paths.{normal, join, folder}
use Rattle.scan_model.specs.Candidates.{candidates, place, placed, place_in}
use Rattle.scan_model.specs.Files.{find, looked_at}
use Rattle.scan_model.specs.DirectiveLines.{effect}
use Rattle.scan_model.specs.Skips.{skip}
use Rattle.scan_model.specs.WholeFile.{end_run, full_line, full_file, enter}
use Rattle.scan_model.specs.WholeUnit.{full}
use Rattle.scan_model.specs.ModuleLines.{take, new}
use Rattle.scan_model.specs.Stream.{read_stream}
use Rattle.scan_model.specs.Answer.{answer, looked}
use Rattle.scan_model.proofs.Computing.{reading}

-- `unfolding running` lets `refl` compute the answer of a unit of ASCII texts, and what it looks at
unfoldable pub running : Unit {0}
unfolding reading digits paste built_ins read_define subst is_replaced expand name_of next_has terms integer char_value tree value normal join folder candidates place placed place_in find looked_at effect skip end_run full_line full_file enter full take new read_stream answer looked
running = tt
