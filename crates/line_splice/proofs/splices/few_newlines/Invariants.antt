use Rattle.std.proofs.Common.{◌≡◌, ◌≤◌, take}
use Rattle.line_splice.specs.Plain.{newlines}
use Rattle.line_splice.proofs.splices.few_newlines.Given as goal

abbrev pub invariant-loop-byte : goal.invariant-loop-byte
invariant-loop-byte l = record { count : l.count ≡ newlines (take l.byte-index l.written); few : l.count ≤ l.byte-index }
