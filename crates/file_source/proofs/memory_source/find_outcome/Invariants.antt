use Rattle.std.proofs.Common.{◌≡◌, drop}
use Rattle.file_source.specs.Scripts.{scripted_at}
use Rattle.file_source.proofs.memory_source.find_outcome.Given as goal

abbrev pub invariant-loop-file : goal.invariant-loop-file
invariant-loop-file l =
    scripted_at l.files l.path l.number ≡ scripted_at (drop l.file-index l.files) l.path l.number
