use Rattle.std.proofs.Common.{arith}
use Rattle.reducer.proofs.OpenLemmas.{length-open_toks}
use Rattle.reducer.proofs.open_lines.OpenLines.count.Goals as goal

pub returns : goal.returns
returns c = let s = c.args.self.now in omega (arith, length-open_toks s, c.len.ensures, s.toks.ok.0)
