use Rattle.std.proofs.Common.{arith}
use Rattle.reducer.proofs.OpenLemmas.{empty_is}
use Rattle.reducer.proofs.open_lines.OpenLines.is_empty.Goals as goal

pub returns : goal.returns
returns c = let s = c.args.self.now in empty_is s c.len.result c.requires (omega (arith, c.len.ensures, s.toks.ok.0))
