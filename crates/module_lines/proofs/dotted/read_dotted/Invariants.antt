use Rattle.std.proofs.Common.{◌≡◌, length}
use Rattle.std.specs.Prelude.{Some}
use Rattle.std.specs.Str.{IsUtf8}
use Rattle.scan_model.specs.ModuleLines.{dotted, dotted_rest, after_text}
use Rattle.scan_model.specs.Utf8Names.{HaveUtf8Names}
use Rattle.module_lines.proofs.dotted.read_dotted.Given as goal

-- the name so far and what follows it make the whole dotted name
abbrev pub invariant-further : goal.invariant-further
invariant-further l = (Some (after_text l.name.items (dotted_rest l.after)) ≡ dotted l.toks) × IsUtf8 l.name.items × HaveUtf8Names l.after

abbrev pub decreases-further : goal.decreases-further
decreases-further l = length l.after
