use Rattle.std.proofs.Common.{◌≡◌, true, take}
use Rattle.std.specs.List.{list_all}
use Rattle.lexeme_reader.specs.Passes.{goes_past}
use Rattle.lexeme_reader.proofs.steps.run_len.Given as goal

abbrev pub invariant-loop-i : goal.invariant-loop-i
invariant-loop-i l = list_all (goes_past l.stop) (take l.i l.written) ≡ true
