use Rattle.std.proofs.Common.{◌≡◌, take}
use Rattle.macro_table.proofs.copies.copied_tokens.Given as goal

abbrev pub invariant-loop-tok : goal.invariant-loop-tok
invariant-loop-tok l = l.copies.items ≡ take l.tok-index l.toks
