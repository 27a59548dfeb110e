use Rattle.std.proofs.Common.{◌≡◌, ◌++◌, drop}
use Rattle.plain_lines.specs.Lines.{toks_at}
use Rattle.plain_lines.proofs.kept_line.KeptLine.copy_from.Given as goal

-- what is copied, and what is left, are the tokens from that place on
abbrev pub invariant-toks : goal.invariant-toks
invariant-toks l = l.toks.items ++ drop l.i (toks_at l.self) ≡ drop l.from (toks_at l.self)
