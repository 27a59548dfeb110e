use Rattle.std.proofs.Common.{◌≡◌, drop}
use Rattle.line_splice.specs.Cursor.{rest}
use Rattle.scan_model.specs.Tokens.{begins}
use Rattle.reducer.proofs.fronts.begins.Given as goal

abbrev pub invariant-word : goal.invariant-word
invariant-word l = begins l.word (rest l.at) ≡ begins (drop l.byte-index l.word) (rest l.next)
