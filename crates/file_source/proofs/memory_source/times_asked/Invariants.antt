use Rattle.std.proofs.Common.{◌≡◌, ◌≤◌, take}
use Rattle.file_source.specs.Scripts.{times}
use Rattle.file_source.proofs.memory_source.times_asked.Given as goal

abbrev pub invariant-loop-other : goal.invariant-loop-other
invariant-loop-other l = record {
  count : l.count ≡ times l.path (take l.other-index l.asked);
  bound : l.count ≤ l.other-index;
}
